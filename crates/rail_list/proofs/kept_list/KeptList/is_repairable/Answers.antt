use Rattle.std.proofs.Common.{◌≡◌, ℕ, suc, ◌+◌, ltb, true, List, length, sym, ap, ◌∙◌, arith}
use Rattle.std.specs.Prelude.{◌==◌}
use Rattle.std.proofs.lemmas.Bool.{and_from, cond-false, cond-true, eq-eqb, lt-ltb, ne_eqb}
use Rattle.rail_rules.specs.Fronts.{without_first}
use Rattle.rail_rules.specs.Moves.{Moves, stand}
use Rattle.rail_rules.specs.Places.{after, completes, is_inside, is_legal, place_of}
use Rattle.rail_place.specs.PlaceStates.{State}
use Rattle.rail_place.specs.Tables.{moves_in, MoveLists}
use Rattle.rail_place.proofs.CallerLemmas.{legal_ahead, made_long}
use Rattle.rail_list.specs.KeptLists.{is_free_before, with_moves_left}
use Rattle.rail_list.proofs.Appending.{appended_where_safe, completing_listed}
use Rattle.rail_list.proofs.Turns.{pulled_where_free}
use Rattle.rail_list.proofs.kept_list.KeptList.is_repairable.Goals as goal

-- a train that has begun, and whose next move is legal, is inside
begun_inside : (plan : Moves) (s : List ℕ) (t : ℕ) → is_legal plan s t ≡ true → (place_of s t ≡ 0 → ⊥) → is_inside plan s t ≡ true
begun_inside plan s t legal begun =
    and_from (ltb 0 (place_of s t)) (ltb (place_of s t) (plan.moves t)) (lt-ltb 0 (place_of s t) (omega (arith, begun))) (lt-ltb (place_of s t) (plan.moves t) (legal_ahead plan s t legal))

pub returns-then-place-eq0-clause-exact : goal.returns-then-place-eq0-clause-exact
returns-then-place-eq0-clause-exact c =
    let table : List MoveLists = c.args.moves.now in
    let plan : Moves = moves_in table in
    let now : State = c.args.places.now in
    let s : List ℕ = now.positions in
    let list : List ℕ = c.args.self.now.trains in
    let t : ℕ = c.args.train in
    let out : place_of s t ≡ 0 = sym c.position-place.ensures ∙ c.if-place-eq0.true in
    c.is_leg_safe.ensures
    ∙ sym (appended_where_safe plan s list t c.requires.made.moves.valid c.requires.train (omega (arith, c.requires.train, made_long table now c.requires.made)) (omega (arith, legal_ahead plan s t c.requires.legal, out)) out c.requires.completes)
    ∙ ap (completes plan (after s t)) (sym (cond-true (place_of s t == 0) (with_moves_left plan t list) (without_first t list) (eq-eqb (place_of s t) 0 out)))

pub is_leg_safe-requires-clause-within : goal.is_leg_safe-requires-clause-within
is_leg_safe-requires-clause-within c =
    let plan : Moves = moves_in c.args.moves.now in
    let s : List ℕ = c.args.places.now.positions in
    omega (arith, legal_ahead plan s c.args.train c.requires.legal, c.position-place.ensures, c.if-place-eq0.true)

pub free_entries_before-requires-clause-known : goal.free_entries_before-requires-clause-known
free_entries_before-requires-clause-known c =
    let table = c.args.moves.now in
    completing_listed (moves_in table) c.args.places.now.positions c.args.self.now.trains (length table) (made_long table c.args.places.now c.requires.made) c.requires.completes

pub returns-clause-exact : goal.returns-clause-exact
returns-clause-exact c =
    let plan : Moves = moves_in c.args.moves.now in
    let s : List ℕ = c.args.places.now.positions in
    let list : List ℕ = c.args.self.now.trains in
    let t : ℕ = c.args.train in
    let some : place_of s t ≡ 0 → ⊥ = λ out. c.if-place-eq0.false (c.position-place.ensures ∙ out) in
    let inside = begun_inside plan s t c.requires.legal some in
    let next : c.position-place.result + 1 ≡ suc (place_of s t) = omega (arith, c.position-place.ensures) in
    c.is_some.ensures ∙ c.free_entries_before.ensures.exact
    ∙ ap (λ xs. is_free_before plan t xs list) (c.stand-sections.ensures.sections ∙ ap (stand plan t) next)
    ∙ sym (pulled_where_free plan s list t c.requires.completes inside)
    ∙ ap (completes plan (after s t)) (sym (cond-false (place_of s t == 0) (with_moves_left plan t list) (without_first t list) (ne_eqb (place_of s t) 0 some)))
