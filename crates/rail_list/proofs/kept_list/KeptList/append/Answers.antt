use Rattle.std.proofs.Common.{◌≡◌, ℕ, suc, ◌-◌, ◌<◌, ◌++◌, Bool, true, List, length, replicate, sym, ap, ◌∙◌, arith}
use Rattle.std.proofs.lemmas.List.{length-append, length-replicate, length-set}
use Rattle.rail_rules.specs.Analysis.{is_safe}
use Rattle.rail_rules.specs.Moves.{Moves}
use Rattle.rail_rules.specs.Numbers.{sum_below}
use Rattle.rail_rules.specs.Places.{place_of, is_legal, after, completes}
use Rattle.rail_place.specs.Tables.{moves_in, MoveLists}
use Rattle.rail_place.specs.PlaceStates.{State, IsMadeFor}
use Rattle.rail_place.proofs.CallerLemmas.{legal_ahead, made_long}
use Rattle.rail_list.specs.KeptLists.{Kept}
use Rattle.rail_list.proofs.Appending.{appended_where_safe, completing_fits}
use Rattle.rail_list.proofs.kept_list.KeptList.append.Goals as goal

-- the answer is that of the appended list
exact : (table : List MoveLists) (now : State) (list : List ℕ) (t : ℕ) (safe : Bool) → IsMadeFor table now
    → t < length table → is_legal (moves_in table) now.positions t ≡ true → place_of now.positions t ≡ 0
    → completes (moves_in table) now.positions list ≡ true
    → safe ≡ is_safe (moves_in table) now.positions (record { train = t; place = 1 })
    → safe ≡ completes (moves_in table) (after now.positions t) (list ++ replicate ((moves_in table).moves t - 1) t)
exact table now list t safe made lt legal out done told =
    let plan : Moves = moves_in table in
    let s = now.positions in
    told
    ∙ sym (appended_where_safe plan s list t made.moves.valid lt (omega (arith, lt, made_long table now made)) (omega (arith, legal_ahead plan s t legal, out)) out done)

pub is_leg_safe-requires-clause-within : goal.is_leg_safe-requires-clause-within
is_leg_safe-requires-clause-within c = omega (arith, legal_ahead (moves_in c.args.moves.now) c.args.places.now.positions c.args.train c.requires.legal, c.requires.outside)

pub returns-then-not-is_leg_safe-clause-exact : goal.returns-then-not-is_leg_safe-clause-exact
returns-then-not-is_leg_safe-clause-exact c =
    sym c.if-not-is_leg_safe.true
    ∙ exact c.args.moves.now c.args.places.now c.args.self.now.trains c.args.train c.is_leg_safe.result c.requires.made c.requires.train c.requires.legal c.requires.outside c.requires.completes c.is_leg_safe.ensures

pub returns-clause-exact : goal.returns-clause-exact
returns-clause-exact c =
    sym c.if-not-is_leg_safe.false
    ∙ exact c.args.moves.now c.args.places.now c.args.self.now.trains c.args.train c.is_leg_safe.result c.requires.made c.requires.train c.requires.legal c.requires.outside c.requires.completes c.is_leg_safe.ensures

pub add-requires : goal.add-requires
add-requires c =
    let table = c.args.moves.now in
    let plan : Moves = moves_in table in
    let now : State = c.args.places.now in
    let list = c.args.self.now.trains in
    let t = c.args.train in
    let rest : List ℕ = replicate (plan.moves t - 1) t in
    let done : completes plan (after now.positions t) (list ++ rest) ≡ true =
    sym (sym c.if-not-is_leg_safe.false
    ∙ exact table now list t c.is_leg_safe.result c.requires.made c.requires.train c.requires.legal c.requires.outside c.requires.completes c.is_leg_safe.ensures) in
    let fits = completing_fits plan (after now.positions t) (list ++ rest) done in
    let trains : length (after now.positions t) ≡ length table = length-set now.positions t (suc (place_of now.positions t)) ∙ made_long table now c.requires.made in
    let all : sum_below plan.moves (length (after now.positions t)) ≡ sum_below plan.moves (length table) = ap (sum_below plan.moves) trains in
    let trains_are = ap (λ (kept : Kept). length kept.trains) c.self.view_is in
    let room_is = ap (λ (kept : Kept). kept.room) c.self.view_is in
    omega (arith, fits, all, trains_are, room_is, c.requires.room, length-append list rest, length-replicate (plan.moves t - 1) t, c.places.ensures)
