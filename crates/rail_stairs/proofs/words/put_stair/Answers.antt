use Rattle.std.proofs.Common.{◌++◌, codes, sym, ap, ◌∙◌, append_assoc}
use Rattle.rail_rules.specs.Texts.{behind}
use Rattle.rail_stairs.specs.StairsTexts.{interval_words, part_words}
use Rattle.rail_text.proofs.CallerLemmas.{behind_append, line_is}
use Rattle.rail_stairs.proofs.words.put_stair.Goals as goal

pub returns : goal.returns
returns c =
    let words = interval_words c.args.plant.now c.args.interval.now in
    let parts = part_words c.args.interval.now.parts in
    let first = codes "stair" in
    line_is first (words ++ parts) c.put-2.ensures
    (c.put_parts.ensures.text
    ∙ ap (λ line. line ++ behind parts)
    (c.put_interval.ensures.text ∙ ap (λ line. line ++ behind words) (c.put.ensures ∙ ap (λ line. line ++ first) c.requires.empty))
    ∙ append_assoc first (behind words) (behind parts)
    ∙ ap (λ line. first ++ line) (sym (behind_append words parts)))
