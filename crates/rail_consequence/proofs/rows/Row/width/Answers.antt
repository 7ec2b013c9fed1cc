use Rattle.std.proofs.Common.{◌+◌, refl, ap, ◌∙◌, sym, subst, ⊎_elim, List, arith}
use Rattle.std.proofs.lemmas.Bool.{cases_lt, false≢true}
use Rattle.rail_rules.specs.Moves.{Moves}
use Rattle.rail_rules.specs.Numbers.{is_in}
use Rattle.rail_place.specs.Tables.{moves_in}
use Rattle.rail_consequence.specs.Needs.{IsSetRow}
use Rattle.rail_consequence.specs.declared.rows.PlaceSets.{PlaceSets}
use Rattle.rail_consequence.proofs.SetLemmas.{claims_past, needs_any, place_of_row}
use Rattle.rail_consequence.proofs.rows.Row.width.Goals as goal

pub returns-clause-all : goal.returns-clause-all
returns-clause-all c = λ i x is.
    let table = c.args.moves.now in
    let plan : Moves = moves_in table in
    let t = c.args.train in
    let P : List PlaceSets → Type 0 = λ r. IsSetRow plan t (plan.moves t + 1) r in
    let sets = place_of_row plan t 0 0 c.self.inside.places.items c.index.result.now (subst P (sym c.self.view_is) c.requires.row) (omega arith) refl c.index.ensures in
    ⊎_elim
    (λ lt. c.width_of.ensures.all x (sets.rest x ∙ needs_any plan t i x lt is))
    (λ past. absurd (false≢true (sym (ap (is_in x) (claims_past table t i past)) ∙ is)))
    (cases_lt i (plan.moves t))
