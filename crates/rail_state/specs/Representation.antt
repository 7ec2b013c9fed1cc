-- What a run keeps, and the front that it stands for.
use Rattle.std.specs.Prelude.{◌≡◌, ◌⊎◌, ℕ, suc, ◌+◌, ◌-◌, ◌<◌, ◌≤◌, Bool, true, false, not, List, [], ◌∷◌, ◌++◌, length, get_or, slice_get, replicate, set, count_by, Option, Some, None, is_some, nat_lt, cond, ◌==◌, ◌&&◌, ◌||◌}
use Rattle.std.specs.List.{filter}
use Rattle.std.specs.Option.{option_map_or}
use Rattle.rail_base.specs.declared.history.Cause.{Cause}
use Rattle.rail_base.specs.declared.history.Note.{Note}
use Rattle.rail_base.specs.declared.history.Note.TheVariants.{Pulled, Appended, Fresh}
use Rattle.rail_base.specs.declared.history.What.{What}
use Rattle.rail_base.specs.declared.history.What.TheVariants as what
use Rattle.rail_base.specs.declared.orders.Command.{Command}
use Rattle.rail_rules.specs.Accepted.{is_accepted}
use Rattle.rail_rules.specs.Numbers.{gather, is_in, listed}
use Rattle.rail_rules.specs.Plant.{Plant, is_forced, moves, moves_of, claimed, step_section, steps, trains}
use Rattle.rail_rules.specs.Times.{stop_time}
use Rattle.rail_rules.specs.Fronts.{Front, Line, admissions, at_time, has_ended, has_held, instant}
use Rattle.rail_rules.specs.Causes.{is_ready, last_hold, place}
use Rattle.rail_rules.specs.Lawful.{is_lawful, is_out, note_fits}
use Rattle.rail_rules.specs.Orders.{is_cancelled, told, Dispatch, input_of}
use Rattle.rail_rules.specs.Events.{commands_due}
use Rattle.rail_base.specs.declared.orders.Order.{Order}
use Rattle.rail_rules.specs.Moves.{Moves}
use Rattle.rail_rules.specs.Places.{after, completes, place_of}
use Rattle.rail_list.specs.Repairs.{repaired_for}
use Rattle.rail_state.specs.SeenCauses.{AreDue, seen_bar, seen_cause, is_uncancelled}
use Rattle.rail_laws_events.specs.Accounts.{tally}
use Rattle.rail_laws_step.specs.HolderTables.{AreHolders, is_train, own_overlap, taken_by}
use Rattle.rail_laws_step.specs.Heads.{IsHead}
use Rattle.rail_laws_events.specs.Changes.{freed_before}
use Rattle.rail_block.specs.declared.times.MoveTimes.{MoveTimes}
use Rattle.rail_block.specs.CarriedTimes.{times_at}
use Rattle.rail_queue.specs.declared.event.Event.{Event}
use Rattle.rail_queue.specs.Order.{first_time_of}
use Rattle.rail_queue.specs.declared.event.Class.{Class}
use Rattle.rail_queue.specs.declared.event.Class.TheVariants as class
use Rattle.rail_state.specs.Events.{deferred_of, end_lines, event_of, free_events, is_free_of, step_lines, train_event}
use Rattle.rail_state.specs.declared.train.TrainState.{TrainState}
use Rattle.rail_state.specs.TrainStates.{AreAtFirst, is_blocked_at, is_touched, is_untried, outside, state_admitted, state_after, state_of, state_told, after_hold_line}
use Rattle.rail_state.specs.declared.run_state.RunState.{RunState}

-- how many moves of each train are admitted, and the times carried for it
pub record AreTimes (plant : Plant) (front : Front) (states : List TrainState) : Type 0 where
  pub many : length states ≡ trains plant
  pub places : (t : ℕ) → t < trains plant → (state_of states t).place ≡ place front t
  pub times : (t : ℕ) → t < trains plant → (state_of states t).times ≡ times_at plant t (admissions front t) (place front t)

-- the arrivals that are deferred, and the frees of the overlaps of those moves
abbrev pub deferred_events : Plant → List TrainState → List Event
deferred_events plant states = gather (λ t. deferred_of plant t (state_of states t).place (state_of states t).deferred) (trains plant)

-- an arrival is deferred only while the train may still pass: its next move isn't ready, or is ready now and wasn't held
pub record IsDeferred (plant : Plant) (t now : ℕ) (train_state : TrainState) (at : ℕ) : Type 0 where
  pub begun : 0 < train_state.place
  pub left : train_state.place < moves plant t
  pub unforced : is_forced plant t train_state.place ≡ false
  pub stops : at ≡ stop_time plant t train_state.times.free_run
  pub early : train_state.times.next_ready < at
  pub still : (train_state.waits ≡ false) ⊎ ((train_state.times.next_ready ≡ now) × (train_state.last_hold ≡ None))

-- no arrival is deferred only where the train stops in any case, or was held at the end of its last admitted move
abbrev pub IsBound : Plant → ℕ → TrainState → Type 0
IsBound plant t train_state = (is_forced plant t train_state.place ≡ true) ⊎ (is_some train_state.last_hold ≡ true)

-- the pending events and those that are deferred are the due lines
pub record ArePending (dispatch : Dispatch) (plant : Plant) (front : Front) (events : List Event) (states : List TrainState) : Type 0 where
  pub counted : AreDue (input_of dispatch plant) front events (deferred_events plant states)
  pub deferred : (t at : ℕ) → t < trains plant → (state_of states t).deferred ≡ Some at
      → IsDeferred plant t (instant front) (state_of states t) at
  pub bound : (t : ℕ) → t < trains plant → (state_of states t).deferred ≡ None → 0 < (state_of states t).place
      → (state_of states t).place < moves plant t → IsBound plant t (state_of states t)

-- the heads of the trains enter the right sections next
pub record AreHeads (plant : Plant) (front : Front) (states : List TrainState) : Type 0 where
  pub place_counts : (t : ℕ) → t < trains plant → 0 < (state_of states t).head.place
  pub step_counts : (t : ℕ) → t < trains plant → 0 < (state_of states t).head.step
  pub heads : (t : ℕ) → t < trains plant → IsHead plant front t ((state_of states t).head.place - 1) ((state_of states t).head.step - 1)

-- which trains wait, what their last hold lines say, and which trains are out
pub record AreWaiting (dispatch : Dispatch) (plant : Plant) (front : Front) (states : List TrainState) : Type 0 where
  pub ready : (t : ℕ) → t < trains plant → (state_of states t).waits ≡ is_ready (input_of dispatch plant) front t
  pub told : (t : ℕ) → t < trains plant → (state_of states t).last_hold ≡ last_hold front t (suc (place front t))
  pub out : (t : ℕ) → t < trains plant → (state_of states t).is_out ≡ is_out front t

-- a cause that is known holds, and is one of a waiting train; after a hold line each is known
pub record AreKnown (dispatch : Dispatch) (plant : Plant) (front : Front) (holders : List (Option ℕ))
    (states : List TrainState) : Type 0 where
  pub cause : (t : ℕ) (why : Cause) → t < trains plant → (state_of states t).known ≡ Some why
      → seen_cause (input_of dispatch plant) front holders t ≡ Some why
  pub waits : (t : ℕ) (why : Cause) → t < trains plant → (state_of states t).known ≡ Some why → (state_of states t).waits ≡ true
  pub at_first_section : AreAtFirst plant states
  pub no_more : has_held front ≡ true → (t : ℕ) → t < trains plant → (state_of states t).waits ≡ true
      → is_some (state_of states t).known ≡ true

-- the train has a known cause, which its last hold line names
pub record IsTold (train_state : TrainState) : Type 0 where
  pub why : Cause
  pub known : train_state.known ≡ Some why
  pub told : train_state.last_hold ≡ Some why

-- every waiting train was told why
abbrev pub HaveHoldLines : Plant → List TrainState → Type 0
HaveHoldLines plant states = (t : ℕ) → t < trains plant → (state_of states t).waits ≡ true → IsTold (state_of states t)

-- the state represents the front: it keeps what the front says; the front may be any lawful one, since who is chosen is no part of it
pub record Represents (dispatch : Dispatch) (plant : Plant) (front : Front) (state : RunState) : Type 0 where
  pub accepted : is_accepted plant ≡ true
  pub lawful : is_lawful (input_of dispatch plant) front ≡ true
  pub time : state.instant ≡ instant front
  pub ended : state.has_ended ≡ has_ended front
  pub begun : front ≡ [] → state.is_settled ≡ true
  pub times : AreTimes plant front state.trains
  pub pending : ArePending dispatch plant front state.queue.events state.trains
  pub heads : AreHeads plant front state.trains
  pub waiting : AreWaiting dispatch plant front state.trains
  pub holders : AreHolders plant front state.holders
  pub known : AreKnown dispatch plant front state.holders state.trains
  pub settled : state.is_settled ≡ true → HaveHoldLines plant state.trains

-- the line of an event without a list
abbrev pub bare_at : ℕ → What → Line
bare_at at what = record { entry = at_time at what; trains = [] }

-- what the first pending event says; the head of a train tells which section it enters
abbrev pub what_of : Plant → List TrainState → Event → What
what_of plant states event = what_in plant states event event.class
  where
    what_in : Plant → List TrainState → Event → Class → What
    what_in plant states event class.Free = what.Free event.number event.train
    what_in plant states event class.Arrive = what.Arrive event.train event.place
    what_in plant states event class.Enter = what.Enter event.train event.place
        (step_section plant event.train ((state_of states event.train).head.place - 1)
        ((state_of states event.train).head.step - 1))
    what_in plant states event class.Out = what.Out event.train
    what_in plant states event class.Ready = what.Ready event.train event.place
    what_in plant states event class.Command = what.Told event.number

-- the holders after an event line
abbrev pub holders_after : What → List (Option ℕ) → List (Option ℕ)
holders_after (what.Free x t) holders = set holders x None
holders_after _ holders = holders

-- after an event line all that waits was told why only if it was so before, nobody is ready just now, and no train
-- was blocked at a section that is free now
abbrev pub StaysSettled : Plant → List TrainState → What → Type 0
StaysSettled plant states (what.Ready t m) = ⊥
StaysSettled plant states (what.Free x u) = (t : ℕ) → t < trains plant → is_blocked_at x (state_of states t).known ≡ false
StaysSettled plant states _ = Unit {0}

-- the first pending event has happened
pub record HasHappened (plant : Plant) (event : Event) (before after : RunState) : Type 0 where
  pub events : before.queue.events ≡ event ∷ after.queue.events
  pub holders : after.holders ≡ holders_after (what_of plant before.trains event) before.holders
  pub many : length after.trains ≡ length before.trains
  pub trains : (t : ℕ) → t < trains plant → state_of after.trains t
      ≡ state_after plant (what_of plant before.trains event) t (state_of before.trains t)
  pub time : after.instant ≡ event.at
  pub going : after.has_ended ≡ before.has_ended
  pub settled : after.is_settled ≡ true → (before.is_settled ≡ true) × StaysSettled plant before.trains (what_of plant before.trains event)

-- the train's hold line was given: nothing of it is deferred then
pub record IsHoldLine (plant : Plant) (t : ℕ) (before after : RunState) : Type 0 where
  pub events : (q : Event → Bool) → count_by q after.queue.events
      ≡ count_by q before.queue.events
      + count_by q (deferred_of plant t (state_of before.trains t).place (state_of before.trains t).deferred)
  pub trains : after.trains ≡ set before.trains t (after_hold_line (state_of before.trains t))
  pub holders : after.holders ≡ before.holders
  pub time : after.instant ≡ before.instant
  pub going : after.has_ended ≡ before.has_ended
  pub settled : after.is_settled ≡ false

-- each waiting train has a known cause
abbrev pub AreAllKnown : Plant → List TrainState → Type 0
AreAllKnown plant states = (t : ℕ) → t < trains plant → (state_of states t).waits ≡ true → is_some (state_of states t).known ≡ true

-- the trains that are neither out nor cancelled, by number
abbrev pub left_of : Dispatch → Plant → Front → List TrainState → List ℕ
left_of dispatch plant front states =
    filter (λ t. not ((state_of states t).is_out || is_cancelled t (told dispatch.commands front))) (listed (λ t. t) (trains plant))

-- the end line was given
pub record IsEndLine (before after : RunState) : Type 0 where
  pub events : after.queue.events ≡ before.queue.events
  pub trains : after.trains ≡ before.trains
  pub holders : after.holders ≡ before.holders
  pub time : after.instant ≡ before.instant
  pub ended : after.has_ended ≡ true

-- the arrival that is told where the train passes at the place at which the move begins
abbrev pub passing_event : ℕ → ℕ → MoveTimes → List Event
passing_event t p times = cond (nat_lt 0 p && times.passes) (train_event times.go class.Arrive t p ∷ []) []

-- the sections of the train's own overlap that its next move claims and the train holds still: it takes them over
abbrev pub taken_over : Plant → List (Option ℕ) → ℕ → ℕ → List ℕ
taken_over plant holders t p = filter (λ x. is_in x (claimed plant t p) && is_train t (get_or holders x None)) (own_overlap plant t p)

-- the sections whose pending frees an admission takes back: those that are taken over, where the train doesn't pass
abbrev pub forgotten : Plant → List (Option ℕ) → ℕ → ℕ → MoveTimes → List ℕ
forgotten plant holders t p times = cond times.passes [] (taken_over plant holders t p)

-- the frees of the overlap at the place at which the move begins, where the train passes there: of what the move doesn't claim
abbrev pub passing_frees : Plant → ℕ → ℕ → MoveTimes → List Event
passing_frees plant t p times = cond times.passes
    (free_events (times.go + plant.tables.overlap_time) t (filter (λ x. not (is_in x (claimed plant t p))) (own_overlap plant t p)))
    []

-- the train's next move was admitted, with these times; the arrival at its end is deferred where there is one
pub record IsAdmitLine (plant : Plant) (front : Front) (t : ℕ) (times : MoveTimes) (arrival : Option ℕ)
    (before after : RunState) : Type 0 where
  pub pushed : (q : Event → Bool) → let adms : List ℕ = admissions front t ++ before.instant ∷ [] in
      count_by q after.queue.events + count_by q (deferred_of plant t (suc (place front t)) arrival)
      ≡ count_by (λ e. not (is_free_of (forgotten plant before.holders t (place front t) times) e) && q e) before.queue.events
      + tally (λ e. q (event_of e)) (freed_before plant t adms (place front t))
      + count_by q (passing_event t (place front t) times) + count_by q (passing_frees plant t (place front t) times)
      + tally (λ e. q (event_of e)) (step_lines plant t adms (place front t))
      + tally (λ e. q (event_of e)) (end_lines plant t adms (place front t))
  pub are_times : times ≡ times_at plant t (admissions front t ++ before.instant ∷ []) (suc (place front t))
  pub deferred : (at : ℕ) → arrival ≡ Some at
      → (is_forced plant t (suc (place front t)) ≡ false) × (suc (place front t) < moves plant t)
      × (at ≡ stop_time plant t times.free_run)
  pub not_deferred : arrival ≡ None → (is_forced plant t (suc (place front t)) ≡ true) ⊎ (suc (place front t) ≡ moves plant t)
  pub many : length after.trains ≡ length before.trains
  pub trains : (u : ℕ) → u < trains plant → state_of after.trains u
      ≡ state_admitted plant after.holders t times arrival u (state_of before.trains u)
  pub holders : after.holders ≡ taken_by before.holders (claimed plant t (place front t)) t
  pub time : after.instant ≡ before.instant
  pub going : after.has_ended ≡ before.has_ended
  pub settled : after.is_settled ≡ false

-- the train is to be admitted: it waits, its cause isn't known, and nothing bars its next move
pub record IsNext (dispatch : Dispatch) (plant : Plant) (front : Front) (holders : List (Option ℕ))
    (states : List TrainState) (t : ℕ) : Type 0 where
  pub known_train : t < trains plant
  pub untried : is_untried (state_of states t) ≡ true
  pub free : seen_bar (told dispatch.commands front) holders t (own_overlap plant t (place front t)) (claimed plant t (place front t)) ≡ None

-- the train may be admitted: it waits, no hold line was given in the round, and nothing bars its next move
pub record IsAdmissible (dispatch : Dispatch) (plant : Plant) (front : Front) (holders : List (Option ℕ))
    (states : List TrainState) (t : ℕ) : Type 0 where
  pub known_train : t < trains plant
  pub waits : (state_of states t).waits ≡ true
  pub unheld : has_held front ≡ false
  pub free : seen_bar (told dispatch.commands front) holders t (own_overlap plant t (place front t)) (claimed plant t (place front t)) ≡ None

-- the list that is kept after an admission with this note completes after the move
abbrev pub MayKeep : Moves → List ℕ → List ℕ → ℕ → Note → List ℕ → Type 0
MayKeep plan s list t Pulled new = (0 < place_of s t) × (completes plan (after s t) new ≡ true) × (new ≡ repaired_for plan s list t)
MayKeep plan s list t Appended new = (place_of s t ≡ 0) × (completes plan (after s t) new ≡ true) × (new ≡ repaired_for plan s list t)
MayKeep plan s list t Fresh new = (completes plan (after s t) new ≡ true) × (0 < length new)

-- the list that stands on the line of an admission
abbrev pub list_for : Note → List ℕ → List ℕ
list_for Fresh list = list
list_for Pulled list = []
list_for Appended list = []

-- the line of an admission, with the new list where it is a fresh one
abbrev pub admit_line : ℕ → ℕ → ℕ → Note → List ℕ → Line
admit_line at t m note list = record { entry = at_time at (what.Admit t m note); trains = list_for note list }

-- the state of a run with other states
abbrev pub with_trains : RunState → List TrainState → RunState
with_trains state states = record state { trains = states }

-- the state before the first line: each train's first move will be ready
pub record IsBeginning (dispatch : Dispatch) (plant : Plant) (state : RunState) : Type 0 where
  pub events : (q : Event → Bool) → count_by q state.queue.events
      ≡ count_by q (gather (λ t. train_event (state_of state.trains t).times.next_ready class.Ready t 1 ∷ []) (trains plant))
      + tally (λ e. q (event_of e)) (commands_due (input_of dispatch plant) [] 0 dispatch.commands)
  pub holders : state.holders ≡ replicate (length plant.tables.sections) None
  pub trains : state.trains ≡ listed (outside plant) (trains plant)
  pub time : state.instant ≡ 0
  pub going : state.has_ended ≡ false
  pub settled : state.is_settled ≡ true

-- what may be done at the first pending event: its train is known, the section that it frees has a holder, and the
-- section that a head enters is one of its move's
pub record IsReadyFor (plant : Plant) (state : RunState) (event : Event) : Type 0 where
  pub known_train : event.train < trains plant
  pub no_command : event.class ≡ class.Command → ⊥
  pub section : event.class ≡ class.Free → event.number < length state.holders
  pub holder : event.class ≡ class.Free → get_or state.holders event.number None ≡ Some event.train
  pub place_counts : event.class ≡ class.Enter → 1 ≤ (state_of state.trains event.train).head.place
  pub place_within : event.class ≡ class.Enter → (state_of state.trains event.train).head.place ≤ moves plant event.train
  pub step_counts : event.class ≡ class.Enter → 1 ≤ (state_of state.trains event.train).head.step
  pub step_within : event.class ≡ class.Enter
      → (state_of state.trains event.train).head.step
      ≤ steps plant event.train ((state_of state.trains event.train).head.place - 1)

-- the orders were told at a command's event, or none were
pub record HasTold (plant : Plant) (orders : List Order) (event : Event) (before after : RunState) : Type 0 where
  pub rest : List Event
  pub first : before.queue.events ≡ event ∷ rest
  pub events : after.queue.events ≡ filter (is_uncancelled orders) rest
  pub holders : after.holders ≡ before.holders
  pub many : length after.trains ≡ length before.trains
  pub settled : after.is_settled ≡ true → (before.is_settled ≡ true)
      × ((t : ℕ) → t < trains plant → (state_of after.trains t).waits ≡ true
      → is_touched plant orders t (state_of before.trains t) ≡ false)
  pub trains : (t : ℕ) → t < trains plant → state_of after.trains t ≡ state_told plant orders t (state_of before.trains t)
  pub time : after.instant ≡ event.at
  pub going : after.has_ended ≡ before.has_ended

-- the command of an event that is pending
pub record IsCommandOf (dispatch : Dispatch) (event : Event) : Type 0 where
  pub index : ℕ
  pub command : Command
  pub listed : slice_get dispatch.commands index ≡ Some command
  pub numbered : event.number ≡ suc index

-- the first pending event has the instant
abbrev pub is_due_now : RunState → Bool
is_due_now state = option_map_or (λ (at : ℕ). at == state.instant) (first_time_of state.queue.events) false

-- whether the train's next move may be admitted by what is kept, under these orders, where a hold line was the last
-- line or not, and this list is kept after it
abbrev pub may_admit_by : Plant → List Order → RunState → Bool → List ℕ → List ℕ → Line → ℕ → ℕ → Note → Bool
may_admit_by plant orders state after_hold positions list line t m note = (line.entry.at == state.instant)
    && (not (is_due_now state) && (state_of state.trains t).waits)
    && not (is_some (seen_bar orders state.holders t (own_overlap plant t (state_of state.trains t).place) (claimed plant t (state_of state.trains t).place)))
    && (m == suc (state_of state.trains t).place) && not after_hold && note_fits line (state_of state.trains t).place note
    && completes (moves_of plant) (after positions t) list
