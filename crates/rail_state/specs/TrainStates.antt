-- What a run keeps of each train, and how lines change it.
use Rattle.std.specs.Prelude.{◌≡◌, ℕ, suc, ◌+◌, ◌-◌, ◌<◌, ◌≤◌, MatchOption, ◌==◌, Bool, true, false, not, ◌&&◌, ◌||◌, cond, nat_lt, is_some, List, [], ◌∷◌, get_or, length, Option, Some, None}
use Rattle.std.specs.List.{list_any}
use Rattle.rail_base.specs.declared.history.What.{What}
use Rattle.rail_base.specs.declared.history.What.TheVariants.{Free, Enter, Out, Ready}
use Rattle.rail_base.specs.declared.history.Cause.{Cause}
use Rattle.rail_base.specs.declared.history.Cause.TheVariants.{Blocked, NoList}
use Rattle.rail_base.specs.declared.orders.Order.{Order}
use Rattle.rail_rules.specs.Orders.{is_cancelled}
use Rattle.rail_rules.specs.Plant.{Plant, claimed, steps, trains}
use Rattle.rail_rules.specs.Fronts.{same_cause}
use Rattle.rail_rules.specs.Numbers.{comes_before, or_else}
use Rattle.rail_orders.specs.OrderTables.{Told, closed_in, stop_in}
use Rattle.rail_laws_step.specs.HolderTables.{bar_holder, held_cause, own_overlap}
use Rattle.rail_block.specs.declared.times.MoveTimes.{MoveTimes}
use Rattle.rail_block.specs.CarriedTimes.{times_at}
use Rattle.rail_state.specs.SeenCauses.{touches}
use Rattle.rail_state.specs.declared.train.Head.{Head}
use Rattle.rail_state.specs.declared.train.TrainState.{TrainState}

-- what stands for the times of a train that a run doesn't have
abbrev pub no_times : MoveTimes
no_times = record { admitted = 0; passes = false; go = 0; free_run = 0; next_ready = 0 }

-- what stands for a train that a run doesn't have
abbrev pub no_state : TrainState
no_state =
    record {
      place = 0;
      times = no_times;
      head = record { place = 0; step = 0 };
      deferred = None;
      waits = false;
      last_hold = None;
      known = None;
      at_first = false;
      is_out = false;
    }

-- the train of this number
abbrev pub state_of : List TrainState → ℕ → TrainState
state_of states t = get_or states t no_state

-- a train before its entry
abbrev pub outside : Plant → ℕ → TrainState
outside plant t =
    record {
      place = 0;
      times = times_at plant t [] 0;
      head = record { place = 1; step = 1 };
      deferred = None;
      waits = false;
      last_hold = None;
      known = None;
      at_first = false;
      is_out = false;
    }

-- the cause is that this section is blocked
abbrev pub is_blocked_at : ℕ → Option Cause → Bool
is_blocked_at x (Some (Blocked y u)) = y == x
is_blocked_at x _ = false

-- where the head enters next, behind a step; moves and steps count from 1
abbrev pub head_behind : Plant → ℕ → Head → Head
head_behind plant t head = cond (nat_lt head.step (steps plant t (head.place - 1)))
    (record { place = head.place; step = head.step + 1 })
    (record { place = head.place + 1; step = 1 })

-- a line that frees the section: the cause is no longer known where it was that this section is blocked
abbrev pub without_known : ℕ → TrainState → TrainState
without_known x train_state = record train_state { known = cond (is_blocked_at x train_state.known) None train_state.known }

-- an event line changes what is kept of a train
abbrev pub state_after : Plant → What → ℕ → TrainState → TrainState
state_after plant (Free x u) t train_state = without_known x train_state
state_after plant (Enter u m x) t train_state =
    cond (u == t) (record train_state { head = head_behind plant t train_state.head }) train_state
state_after plant (Out u) t train_state = cond (u == t) (record train_state { is_out = true }) train_state
state_after plant (Ready u m) t train_state = cond (u == t) (record train_state { waits = true }) train_state
state_after plant _ t train_state = train_state

-- the train waits, and the cause of its next move isn't known
abbrev pub is_untried : TrainState → Bool
is_untried train_state = train_state.waits && not (is_some train_state.known)

-- what bars the next move of a train, whose overlap this is, by the tables of what was told and of who holds each section
abbrev pub bar_by : Told → List (Option ℕ) → ℕ → List ℕ → List ℕ → Option Cause
bar_by told holders t own sections = or_else (stop_in told t) (or_else (closed_in told sections) (held_cause holders t own sections))

-- some train waits
pub record IsAnyWaiting (states : List TrainState) : Type 0 where
  pub train : ℕ
  pub there : train < length states
  pub waits : (state_of states train).waits ≡ true

-- this is the first train from the number on that passes the test, where there is one
abbrev pub IsNextOf : (TrainState → Bool) → List TrainState → ℕ → Option ℕ → Type 0
IsNextOf test states number found = MatchOption found ((t : ℕ) → number ≤ t → test (state_of states t) ≡ false)
    (λ train. (train < length states) × (number ≤ train) × (test (state_of states train) ≡ true) × ((t : ℕ) → number ≤ t → t < train → test (state_of states t) ≡ false))

-- the cause is that a section is blocked
abbrev pub is_blocked : Cause → Bool
is_blocked (Blocked x u) = true
is_blocked _ = false

-- the cause is that the first of these sections is blocked
abbrev pub is_at_first : Option Cause → List ℕ → Bool
is_at_first (Some (Blocked x u)) (y ∷ sections) = x == y
is_at_first _ _ = false

-- a train that is untried is looked at: what bars its next move is its cause
abbrev pub looked_at : Plant → (ℕ → List ℕ → List ℕ → Option Cause) → ℕ → TrainState → TrainState
looked_at plant bar t train_state =
    let sections = claimed plant t train_state.place in
    let own = own_overlap plant t train_state.place in
    record train_state {
      known = cond (is_untried train_state) (bar t own sections) train_state.known;
      at_first = cond (is_untried train_state) (is_at_first (bar t own sections) sections) train_state.at_first;
    }

-- what orders the waiting trains: when they are ready, then their number
abbrev pub turn : List TrainState → ℕ → List ℕ
turn states t = (state_of states t).times.next_ready ∷ t ∷ []

-- the train is the first of the untried ones
pub record IsReadyFirst (states : List TrainState) (t : ℕ) : Type 0 where
  pub untried : is_untried (state_of states t) ≡ true
  pub first : (u : ℕ) → is_untried (state_of states u) ≡ true → comes_before (turn states u) (turn states t) ≡ false

-- the train has a known cause that its last hold line doesn't name
abbrev pub lacks_hold_line : TrainState → Bool
lacks_hold_line train_state = train_state.waits && is_some train_state.known && not (same_cause train_state.last_hold train_state.known)

-- what is kept of a train after its hold line: no arrival is deferred
abbrev pub after_hold_line : TrainState → TrainState
after_hold_line train_state = record train_state { last_hold = train_state.known; deferred = None }

-- what is kept of a train after the admission of its next move, with the times of that move and the arrival that is deferred
abbrev pub admitted : MoveTimes → Option ℕ → TrainState → TrainState
admitted times arrival train_state =
    record train_state {
      place = suc train_state.place;
      times = times;
      deferred = arrival;
      waits = false;
      last_hold = None;
      known = None;
    }

-- the holder of a section that stands before this one on the way bars the train
abbrev pub is_blocked_before : List (Option ℕ) → ℕ → List ℕ → ℕ → List ℕ → Bool
is_blocked_before holders t own x [] = false
is_blocked_before holders t own x (y ∷ sections) = not (y == x) && (is_some (bar_holder holders t own y) || is_blocked_before holders t own x sections)

-- the cause of a move over these sections is the same behind an admission, which leaves these holders: no section before the blocked one is taken; that no list is known may have changed
abbrev pub outlasts_taking : List (Option ℕ) → ℕ → List ℕ → List ℕ → Option Cause → Bool
outlasts_taking holders t own sections (Some (Blocked x u)) = not (is_blocked_before holders t own x sections)
outlasts_taking holders t own sections (Some NoList) = false
outlasts_taking holders t own sections _ = true

-- what is kept of a train after another one took its sections, which leaves these holders: its cause is known as long as it waits and the cause is the same
abbrev pub after_taking : Plant → List (Option ℕ) → ℕ → TrainState → TrainState
after_taking plant holders t train_state =
    record train_state {
      known = cond (train_state.waits && outlasts_taking holders t (own_overlap plant t train_state.place) (claimed plant t train_state.place) train_state.known) train_state.known None;
    }

-- what is kept of the trains after an admission of one of them, which leaves these holders
abbrev pub state_admitted : Plant → List (Option ℕ) → ℕ → MoveTimes → Option ℕ → ℕ → TrainState → TrainState
state_admitted plant holders u times arrival t train_state = cond (u == t) (admitted times arrival train_state) (after_taking plant holders t train_state)

-- the orders told may change the cause of the train's next move, or end its waiting
abbrev pub is_touched : Plant → List Order → ℕ → TrainState → Bool
is_touched plant orders t train_state = is_cancelled t orders
    || list_any (λ order. touches order t (claimed plant t train_state.place)) orders

-- what is kept of a train after orders are told: a cause that they may change is no longer known, and a cancelled train doesn't wait
abbrev pub state_told : Plant → List Order → ℕ → TrainState → TrainState
state_told plant orders t train_state =
    record train_state {
      known = cond (is_touched plant orders t train_state) None train_state.known;
      waits = not (is_cancelled t orders) && train_state.waits;
    }

-- a train that is known to be blocked at the first section of its next move is so
abbrev pub AreAtFirst : Plant → List TrainState → Type 0
AreAtFirst plant states = (t : ℕ) (why : Cause) → t < trains plant → (state_of states t).known ≡ Some why → (state_of states t).at_first ≡ true
    → is_blocked why ≡ true → is_at_first (Some why) (claimed plant t (state_of states t).place) ≡ true
