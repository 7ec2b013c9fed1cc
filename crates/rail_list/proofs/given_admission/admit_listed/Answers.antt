use Rattle.std.proofs.Common.{◌≡◌, ℕ, ◌<◌, List, length, refl, sym, ap, ◌∙◌, arith}
use Rattle.rail_rules.specs.Moves.{Moves}
use Rattle.rail_rules.specs.Numbers.{sum_below}
use Rattle.rail_rules.specs.Places.{after}
use Rattle.rail_place.specs.PlaceStates.{State, IsMadeFor}
use Rattle.rail_place.specs.Tables.{moves_in, MoveLists}
use Rattle.rail_place.proofs.CallerLemmas.{made_long, IsWayBack, way_back}
use Rattle.rail_list.proofs.Appending.{completing_fits}
use Rattle.rail_list.proofs.given_admission.admit_listed.Goals as goal

way : (table : List MoveLists) (s : State) (r : List ℕ) (t : ℕ) → IsMadeFor table s → t < length table → r ≡ after s.positions t → IsWayBack (moves_in table) s.positions r t
way table s r t made lt moved = way_back (moves_in table) s.positions r t made.valid (omega (arith, lt, made_long table s made)) (sym moved)

pub replace-requires : goal.replace-requires
replace-requires c =
    let plan : Moves = moves_in c.args.moves.now in
    let now : State = c.advance.new.self in
    let fits = completing_fits plan now.positions c.args.list.now (sym c.does_complete.ensures ∙ c.if-does_complete.true) in
    let all : sum_below plan.moves (length now.positions) ≡ sum_below plan.moves (length c.args.moves.now) = ap (sum_below plan.moves) (made_long c.args.moves.now now c.advance.ensures.made) in
    omega (arith, fits, all, c.requires.room)

pub retreat-requires-clause-free : goal.retreat-requires-clause-free
retreat-requires-clause-free c =
    (way c.args.moves.now c.args.places.now c.advance.new.self.positions c.args.train c.requires.made c.requires.train c.advance.ensures.positions).free

pub returns-else-does_complete-clause-none : goal.returns-else-does_complete-clause-none
returns-else-does_complete-clause-none c = λ _. (
  c.retreat.ensures.positions
      ∙ (way c.args.moves.now c.args.places.now c.advance.new.self.positions c.args.train c.requires.made c.requires.train c.advance.ensures.positions).back,
  refl,
)
