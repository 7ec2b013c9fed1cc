use Rattle.std.proofs.Common.{not, sym, ap, ◌∙◌}
use Rattle.std.proofs.lemmas.Bool.{cond-true, cond-false}
use Rattle.rail_rules.specs.Texts.{spaced}
use Rattle.rail_stairs.specs.StairsTexts.{is_of_overlap, over_words, stair_words}
use Rattle.rail_stairs.proofs.words.put_line.Goals as goal

pub returns-then-is_none : goal.returns-then-is_none
returns-then-is_none c =
    let plant = c.args.plant.now in
    let interval = c.args.interval.now in
    let over = ap not c.is_none.ensures ∙ ap (λ b. not (not b)) c.if-is_none.true in
    c.put_over.ensures ∙ sym (ap spaced (cond-true (is_of_overlap interval) (over_words plant interval) (stair_words plant interval) over))

pub returns-else-is_none : goal.returns-else-is_none
returns-else-is_none c =
    let plant = c.args.plant.now in
    let interval = c.args.interval.now in
    let needed = ap not c.is_none.ensures ∙ ap (λ b. not (not b)) c.if-is_none.false in
    c.put_stair.ensures ∙ sym (ap spaced (cond-false (is_of_overlap interval) (over_words plant interval) (stair_words plant interval) needed))
