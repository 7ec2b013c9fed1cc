-- What the analyst works on: places of its own, and the moves that it has made on them.
use Rattle.std.specs.Prelude.{◌≡◌, ℕ, ◌+◌, ◌*◌, ◌<◌, ◌≤◌, List, length, drop, ◌++◌, IsTrue, None, is_some, get_or, vec_capacity}
use Rattle.std.specs.Global.{Vec}
use Rattle.rail_base.specs.declared.limits.TheConstants.{LIST_TRAINS}
use Rattle.rail_sets.specs.declared.sets.TheConstants.{WORDS}
use Rattle.rail_rules.specs.Analysis.{moves_left}
use Rattle.rail_rules.specs.Moves.{Moves}
use Rattle.rail_rules.specs.Numbers.{is_in}
use Rattle.rail_rules.specs.Places.{is_inside, is_valid_state}
use Rattle.rail_place.specs.Tables.{moves_in, MoveLists}
use Rattle.rail_place.specs.PlaceStates.{State, IsFreeBehind, IsMadeFor}
use Rattle.rail_place.specs.Plays.{IsPlayed}
use Rattle.rail_sets.specs.Counts.{Columns}
use Rattle.rail_consequence.specs.Needs.{IsCounted}
use Rattle.rail_consequence.specs.Needs.{IsIdleBehind, IsRowsOf, IsSet, SetRows}

-- the sets of the trains at each place, places, the sections that are taken, for each section how many trains need it, and the moves that were made
pub record Work : Type 0 where
  pub rows : SetRows
  pub places : State
  pub taken : List ℕ
  pub needs : Columns
  pub list : List ℕ

-- the sets are those of the moves, for which the places were made, the sections are taken that a train holds, the trains are counted that need each section there, and the list has room for the moves that are left
pub record IsReady (table : List MoveLists) (work : Work) : Type 0 where
  pub rows : IsRowsOf (moves_in table) work.rows
  pub made : IsMadeFor table work.places
  pub taken : IsSet work.taken (λ x. is_some (get_or work.places.owners x None))
  pub wide : length work.taken ≡ WORDS
  pub counted : IsCounted (moves_in table) work.places.positions work.needs
  pub few : length work.list + moves_left (moves_in table) work.places.positions ≤ LIST_TRAINS

-- the list has room for the longest one, and behind the sections of the words that a set takes nobody holds one, and none is counted
pub record IsSheet (rows : SetRows) (places : State) (needs : Columns) (list : Vec ℕ) : Type 0 where
  pub room : vec_capacity list ≡ LIST_TRAINS
  pub free : IsFreeBehind (64 * rows.width) places.owners
  pub idle : IsIdleBehind (64 * rows.width) needs

-- the moves of the list behind the first so many lead from some valid state to the places
pub record IsPlayedFrom (plan : Moves) (n : ℕ) (work : Work) : Type 0 where
  pub start : List ℕ
  pub valid : IsTrue (is_valid_state plan start)
  pub played : IsPlayed plan start (drop n work.list) work.places.positions

-- more moves were made, and added to the list
pub record GoesOn (plan : Moves) (old new : Work) : Type 0 where
  pub more : List ℕ
  pub list : new.list ≡ old.list ++ more
  pub played : IsPlayed plan old.places.positions more new.places.positions

-- the places and the list are as before
pub record IsBack (old new : Work) : Type 0 where
  pub list : new.list ≡ old.list
  pub positions : new.places.positions ≡ old.places.positions

-- the list names each train that is inside, and nothing but trains
pub record IsListing (plan : Moves) (s inside : List ℕ) : Type 0 where
  pub trains : (t : ℕ) → IsTrue (is_in t inside) → t < plan.trains
  pub all : (t : ℕ) → IsTrue (is_inside plan s t) → IsTrue (is_in t inside)
