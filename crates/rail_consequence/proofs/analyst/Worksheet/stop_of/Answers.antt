use Rattle.std.proofs.Common.{◌≡◌, ℕ, true, false, Option, None, Some, sym, ap, ◌∙◌, subst, arith}
use Rattle.std.specs.Prelude.{MatchOption}
use Rattle.rail_rules.specs.Moves.{Moves, stand}
use Rattle.rail_rules.specs.Numbers.{is_in}
use Rattle.rail_rules.specs.Places.{place_of}
use Rattle.rail_place.specs.Tables.{moves_in}
use Rattle.rail_sets.specs.Sets.{has}
use Rattle.rail_consequence.specs.Needs.{IsSet}
use Rattle.rail_consequence.specs.Stops.{IsTakenByOther}
use Rattle.rail_consequence.specs.Workspace.{Work}
use Rattle.rail_consequence.proofs.Holding.{are_owned, no_bar, other_bar, place_within}
use Rattle.rail_consequence.proofs.Played.{ready_as}
use Rattle.rail_consequence.proofs.analyst.Worksheet.stop_of.Goals as goal

pub stand-own-requires-clause-within : goal.stand-own-requires-clause-within
stand-own-requires-clause-within g c =
    let at = c.position.ensures ∙ ap (λ (w : Work). place_of w.places.positions c.args.train) c.self.view_is in
    omega (arith, at, place_within c.args.moves.now c.args.self.now.places c.args.train c.requires.ready.made c.requires.train)

matched : (A B : Type 0) (C D : ℕ → Type 0) (o : Option ℕ) → (A → B) → ((x : ℕ) → C x → D x) → MatchOption o A C → MatchOption o B D
matched A B C D None first later told = first told
matched A B C D (Some x) first later told = later x told

pub returns : goal.returns
returns g c =
    let table = c.args.moves.now in
    let plan : Moves = moves_in table in
    let t = c.args.train in
    let m = c.args.made in
    let own : Work = record { rows = c.self.inside.rows; places = c.self.inside.places; taken = c.self.inside.taken; needs = c.self.inside.needs; list = c.self.inside.list.items } in
    let ready = ready_as table own c.args.self.now c.self.view_is c.requires.ready in
    let taken = are_owned table own.places ready.made own.taken ready.taken in
    let G : ℕ → Type 0 = λ q. IsSet c.stand-own.result.now (λ x. is_in x (stand plan t q)) in
    let stands = subst G c.position.ensures c.stand-own.ensures.set in
    let H : Work → ℕ → Type 0 = λ w x. IsTakenByOther plan w.places.positions t x in
    matched
    ((x : ℕ) → has c.need.result.now x ≡ true → has own.taken x ≡ true → has c.stand-own.result.now x ≡ true)
    ((x : ℕ) → is_in x (plan.claim t m) ≡ true → IsTakenByOther plan c.args.self.now.places.positions t x → ⊥)
    (λ x. (has c.need.result.now x ≡ true) × (has own.taken x ≡ true) × (has c.stand-own.result.now x ≡ false))
    (λ x. (is_in x (plan.claim t m) ≡ true) × IsTakenByOther plan c.args.self.now.places.positions t x)
    c.first_common.result
    (λ none x needed bar. no_bar plan own.places.positions own.taken ready.made.valid taken t x (λ is. sym (stands x) ∙ none x (c.need.ensures.set x ∙ needed) is) (subst (λ w. H w x) (sym c.self.view_is) bar))
    (λ x some. (sym (c.need.ensures.set x) ∙ some.0, subst (λ w. H w x) c.self.view_is (other_bar plan own.places.positions own.taken ready.made.valid taken t x some.1 (sym (stands x) ∙ some.2))))
    c.first_common.ensures
