use Rattle.std.proofs.Common.{◌≡◌, ℕ, suc, ◌+◌, ◌<◌, Bool, ◌&&◌, leb, false, not, List, length, refl, sym, ap, ◌∙◌, arith}
use Rattle.std.proofs.lemmas.Bool.{and_left}
use Rattle.std.proofs.lemmas.List.{length-set}
use Rattle.rail_rules.specs.Moves.{Moves, stand}
use Rattle.rail_rules.specs.Numbers.{any_below, are_apart}
use Rattle.rail_rules.specs.Places.{place_of}
use Rattle.rail_place.specs.PlaceStates.{IsMadeFor, State}
use Rattle.rail_place.specs.Tables.{moves_in, MoveLists}
use Rattle.rail_place.proofs.CallerLemmas.{made_long}
use Rattle.rail_list.specs.Failures.{HasMoved}
use Rattle.rail_list.proofs.Behind.{place_within, safe_move_out, stays_where}
use Rattle.rail_list.proofs.Pulling.{place_kept}
use Rattle.rail_list.proofs.failures.stays_safe.Goals as goal

-- the train is one of those of the state from which another one moved
listed_before : (table : List MoveLists) (now : State) (s : List ℕ) (moved t : ℕ) → IsMadeFor table now → HasMoved (moves_in table) s moved now.positions → t < length table → t < length s
listed_before table now s moved t made came lt = omega (arith, lt, made_long table now made, ap length came.0, length-set s moved (suc (place_of s moved)))

pub returns-then-place-places : goal.returns-then-place-places
returns-then-place-places c = λ s came safe.
    let table : List MoveLists = c.args.moves.now in
    let plan : Moves = moves_in table in
    let now : State = c.args.places.now in
    let t : ℕ = c.args.waiting in
    let u : ℕ = c.args.moved in
    let lt : t < length s = listed_before table now s u t c.requires.made came (omega (arith, c.if-waiting-trains.false, c.trains.ensures.count)) in
    let same : place_of now.positions t ≡ place_of s t = ap (λ w. place_of w t) came.0 ∙ place_kept s t u c.requires.waiting in
    sym (safe_move_out plan s t u lt c.requires.waiting (omega (arith, c.if-place-places.true, c.places.ensures, c.position-place.ensures, same)) safe)

pub does_need_one-requires-clause-last : goal.does_need_one-requires-clause-last
does_need_one-requires-clause-last c =
    omega (arith, c.position-end.ensures, place_within c.args.moves.now c.args.places.now c.args.moved c.requires.made c.requires.moved)

pub stand-requires-then-not-does_need_one-clause-last : goal.stand-requires-then-not-does_need_one-clause-last
stand-requires-then-not-does_need_one-clause-last c =
    omega (arith, c.position-end.ensures, place_within c.args.moves.now c.args.places.now c.args.moved c.requires.made c.requires.moved)

pub returns-then-not-does_need_one : goal.returns-then-not-does_need_one
returns-then-not-does_need_one c = λ s came safe.
    let table : List MoveLists = c.args.moves.now in
    let now : State = c.args.places.now in
    let t : ℕ = c.args.waiting in
    let u : ℕ = c.args.moved in
    let lt : t < length s = listed_before table now s u t c.requires.made came (omega (arith, c.if-waiting-trains.false, c.trains.ensures.count)) in
    sym (ap (λ b. not b && not c.does_need_from.result) c.if-not-does_need_one.true)
    ∙ stays_where (moves_in table) s now.positions t u c.position-place.result c.position-end.result c.stand.result.now c.stand-then-not-does_need_one.result.now c.does_need_one.result c.does_need_from.result
    came lt (listed_before table now s u u c.requires.made came c.requires.moved) c.requires.waiting safe
    c.position-place.ensures c.position-end.ensures c.stand.ensures.sections c.stand-then-not-does_need_one.ensures.sections c.does_need_one.ensures c.does_need_from.ensures

pub returns-else-not-does_need_one : goal.returns-else-not-does_need_one
returns-else-not-does_need_one c = λ s came safe.
    let table : List MoveLists = c.args.moves.now in
    let plan : Moves = moves_in table in
    let now : State = c.args.places.now in
    let t : ℕ = c.args.waiting in
    let u : ℕ = c.args.moved in
    let lt : t < length s = listed_before table now s u t c.requires.made came (omega (arith, c.if-waiting-trains.false, c.trains.ensures.count)) in
    let from : Bool = any_below (λ i. leb (c.position-place.result + 1) i && not (are_apart (plan.claim t i) (stand plan u c.position-end.result))) (plan.moves t) in
    let free : not c.does_need_one.result ≡ false = ap not c.if-not-does_need_one.false in
    free
    ∙ sym (and_left (not c.does_need_one.result) (not from) free)
    ∙ stays_where plan s now.positions t u c.position-place.result c.position-end.result c.stand.result.now (stand plan u c.position-end.result) c.does_need_one.result from
    came lt (listed_before table now s u u c.requires.made came c.requires.moved) c.requires.waiting safe
    c.position-place.ensures c.position-end.ensures c.stand.ensures.sections refl c.does_need_one.ensures refl
