use Rattle.std.proofs.Common.{◌≡◌, Bool, true, false, not, ◌&&◌, eqb, sym, ap, ◌∙◌, refl, arith}
use Rattle.rail_rules.specs.Moves.{Moves}
use Rattle.rail_rules.specs.Places.{place_of}
use Rattle.rail_place.specs.Tables.{moves_in}
use Rattle.rail_sets.specs.Sets.{has}
use Rattle.rail_sets.proofs.CallerLemmas.{none_in_zeros}
use Rattle.rail_consequence.specs.Needs.{count_of, needs_from}
use Rattle.rail_consequence.specs.Workspace.{Work}
use Rattle.rail_consequence.proofs.Holding.{place_within}
use Rattle.rail_consequence.proofs.analyst.Worksheet.has_pairs.Goals as goal

pub rest-requires-clause-within : goal.rest-requires-clause-within
rest-requires-clause-within g c =
    let at = c.position.ensures ∙ ap (λ (w : Work). place_of w.places.positions c.args.train) c.self.view_is in
    omega (arith, at, place_within c.args.moves.now c.args.self.now.places c.args.train c.requires.ready.made c.requires.train)

-- what is not both is not both and a third thing
not_all : (a b c : Bool) → (a && c) ≡ false → (a && not b && c) ≡ false
not_all true true c none = refl
not_all true false c none = none
not_all false b c none = refl

pub returns : goal.returns
returns g c = λ no x low.
    let plan : Moves = moves_in c.args.moves.now in
    let t = c.args.train in
    let w = c.args.self.now in
    let p = place_of w.places.positions t in
    let at = c.position.ensures ∙ ap (λ (v : Work). place_of v.places.positions t) c.self.view_is in
    let needed = c.rest.ensures.set x ∙ ap (λ q. needs_from plan t q x) at in
    none_in_zeros 0 x
    ∙ sym
    (not_all (needs_from plan t p x) (needs_from plan t (plan.moves t) x) (eqb (count_of w.needs x) 2)
    (ap (λ b. b && eqb (count_of w.needs x) 2) (sym needed) ∙ ap (λ (v : Work). has c.rest.result.now x && eqb (count_of v.needs x) 2) (sym c.self.view_is) ∙ c.has_pairs.ensures no x))
