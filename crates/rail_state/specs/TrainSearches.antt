-- By which sets a run finds its trains.
use Rattle.std.specs.Prelude.{◌≡◌, ℕ, ◌≤◌, Bool, true, false, not, cond, Some, List, length, Option}
use Rattle.rail_base.specs.declared.history.Cause.{Cause}
use Rattle.rail_base.specs.declared.history.Cause.TheVariants.{Blocked, NoList}
use Rattle.rail_base.specs.declared.limits.TheConstants.{TRAINS}
use Rattle.rail_rules.specs.Numbers.{comes_before}
use Rattle.rail_state.specs.declared.train.TrainState.{TrainState}
use Rattle.rail_sets.specs.declared.train_set.TrainSet.{TrainSet}
use Rattle.rail_state.specs.declared.train_sets.TrainSets.{TrainSets}
use Rattle.rail_sets.specs.TrainSets.{has_train}
use Rattle.rail_state.specs.BlockedAt.{set_at}
use Rattle.rail_state.specs.TrainStates.{is_blocked_at, is_untried, lacks_hold_line, state_of, turn}

-- the train waits
abbrev pub is_waiting : TrainState → Bool
is_waiting train_state = train_state.waits

-- an admission of another train may change this cause: none by a section that is blocked, where that is the first one of the next move
abbrev pub may_change : Bool → Option Cause → Bool
may_change at_first (Some (Blocked x u)) = not at_first
may_change at_first (Some NoList) = true
may_change at_first _ = false

-- an admission of another train may change the known cause of the train
abbrev pub is_changeable : TrainState → Bool
is_changeable train_state = may_change train_state.at_first train_state.known

-- the set has exactly the trains that pass the test
abbrev pub IsSetOf : (TrainState → Bool) → List TrainState → TrainSet → Type 0
IsSetOf test states set = (t : ℕ) → has_train set t ≡ test (state_of states t)

-- each of the sets has exactly the trains that it is named for
pub record AreSetsOf (states : List TrainState) (sets : TrainSets) : Type 0 where
  pub waiting : IsSetOf is_waiting states sets.waiting
  pub untried : IsSetOf is_untried states sets.untried
  pub lacking : IsSetOf lacks_hold_line states sets.lacking
  pub changeable : IsSetOf is_changeable states sets.changeable

-- no set has a train
pub record HaveNobody (sets : TrainSets) : Type 0 where
  pub waiting : (t : ℕ) → has_train sets.waiting t ≡ false
  pub untried : (t : ℕ) → has_train sets.untried t ≡ false
  pub lacking : (t : ℕ) → has_train sets.lacking t ≡ false
  pub changeable : (t : ℕ) → has_train sets.changeable t ≡ false

-- for each section the table has the trains that are blocked at it
abbrev pub AreBlockedAt : List TrainState → List TrainSet → Type 0
AreBlockedAt states blocked = (t x : ℕ) → is_blocked_at x (state_of states t).known ≡ true → has_train (set_at blocked x) t ≡ true

-- the sets and the table are those of these trains, for which memory was taken, and for no more
pub record AreKept (states : List TrainState) (those : TrainSets) (table : List TrainSet) (taken : ℕ) : Type 0 where
  pub few : length states ≤ TRAINS
  pub full : taken ≡ length states
  pub sets : AreSetsOf states those
  pub blocked : AreBlockedAt states table

-- of the first train so far and another one, the one that comes before the other
abbrev pub earlier : List TrainState → Option ℕ → ℕ → ℕ
earlier states (Some u) t = cond (comes_before (turn states t) (turn states u)) t u
earlier states _ t = t
