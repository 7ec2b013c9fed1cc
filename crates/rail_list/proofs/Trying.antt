-- A trial move that can be taken back.
use Rattle.std.proofs.Common.{◌≡◌, ℕ, ◌<◌, List, length, sym, arith}
use Rattle.rail_rules.specs.Places.{after}
use Rattle.rail_place.specs.Tables.{moves_in, MoveLists}
use Rattle.rail_place.specs.PlaceStates.{State, IsMadeFor}
use Rattle.rail_place.proofs.CallerLemmas.{made_long, IsWayBack, way_back}

-- the train's move can be taken back
pub way : (table : List MoveLists) (s : State) (r : List ℕ) (t : ℕ) → IsMadeFor table s → t < length table → r ≡ after s.positions t → IsWayBack (moves_in table) s.positions r t
way table s r t made lt moved = way_back (moves_in table) s.positions r t made.valid (omega (arith, lt, made_long table s made)) (sym moved)
