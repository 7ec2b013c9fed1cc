use Rattle.std.proofs.Common.{◌≡◌, ℕ, true, false, refl, sym, ap, ◌∙◌, ⊎_elim}
use Rattle.std.proofs.lemmas.Bool.{cases_Bool, false≢true}
use Rattle.rail_rules.specs.Moves.{Moves}
use Rattle.rail_rules.specs.Places.{is_inside}
use Rattle.rail_place.specs.Tables.{moves_in}
use Rattle.rail_consequence.specs.Workspace.{Work}
use Rattle.rail_consequence.proofs.Counts.{in_at, in_take_more, in_take_all}
use Rattle.rail_consequence.proofs.Legs.{nobody_at, nobody_from}
use Rattle.rail_consequence.proofs.analyst.Worksheet.is_done.Goals as goal

pub stands_inside-requires-clause-train : goal.stands_inside-requires-clause-train
stands_inside-requires-clause-train c = c.requires.listed.trains c.train-item.result (in_at c.train-item.result c.args.inside.now c.loop-train.train-index c.loop-train-test.true c.train-item.is)

pub loop-train-preserved : goal.loop-train-preserved
loop-train-preserved c = λ u found.
    let plan : Moves = moves_in c.args.moves.now in
    let s = c.args.self.now.places.positions in
    let out : is_inside plan s c.train-item.result ≡ false = ap (λ (w : Work). is_inside plan w.places.positions c.train-item.result) (sym c.self.view_is) ∙ sym c.stands_inside.ensures ∙ c.if-stands_inside.false in
    ⊎_elim
    (λ earlier. c.loop-train.invariant u earlier)
    (λ same. ap (is_inside plan s) (sym same) ∙ out)
    (in_take_more u c.train-item.result c.args.inside.now c.loop-train.train-index c.loop-train-test.true c.train-item.is found)

pub returns-then-stands_inside : goal.returns-then-stands_inside
returns-then-stands_inside c =
    let plan : Moves = moves_in c.args.moves.now in
    let s = c.args.self.now.places.positions in
    let t = c.train-item.result in
    let within : is_inside plan s t ≡ true = ap (λ (w : Work). is_inside plan w.places.positions t) (sym c.self.view_is) ∙ sym c.stands_inside.ensures ∙ c.if-stands_inside.true in (
      λ e. absurd (false≢true e),
      λ nobody. absurd (false≢true (sym (nobody_at plan s t nobody) ∙ within)),
    )

pub returns : goal.returns
returns c =
    let plan : Moves = moves_in c.args.moves.now in
    let s = c.args.self.now.places.positions in
    let out : (u : ℕ) → is_inside plan s u ≡ false = λ u.
    ⊎_elim
    (λ is. c.loop-train.invariant u (in_take_all u c.args.inside.now c.loop-train.train-index c.loop-train-test.false (c.requires.listed.all u is)))
    (λ out. out)
    (cases_Bool (is_inside plan s u)) in (
      λ _. nobody_from plan s out,
      λ _. refl,
    )
