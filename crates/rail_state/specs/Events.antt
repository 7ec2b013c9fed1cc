-- The events that the lines of a history are.
use Rattle.std.specs.Prelude.{◌≡◌, ℕ, suc, ◌+◌, ◌≤◌, Bool, true, List, [], ◌∷◌, ◌++◌, count_by, Option, Some, None}
use Rattle.std.specs.List.{list_any}
use Rattle.rail_base.specs.declared.history.Entry.{Entry}
use Rattle.rail_base.specs.declared.history.What.{What}
use Rattle.rail_base.specs.declared.history.What.TheVariants as what
use Rattle.rail_base.specs.declared.orders.Command.{Command}
use Rattle.rail_rules.specs.Numbers.{gather, is_in}
use Rattle.rail_rules.specs.Plant.{Plant, steps, step_section}
use Rattle.rail_rules.specs.Intervals.{end_of}
use Rattle.rail_rules.specs.Events.{arrive_line, enter_line, free_lines, out_lines}
use Rattle.rail_laws_events.specs.Changes.{overlap_frees, ready_after}
use Rattle.rail_laws_step.specs.HolderTables.{own_overlap}
use Rattle.rail_queue.specs.Order.{is_of}
use Rattle.rail_queue.specs.declared.event.Event.{Event}
use Rattle.rail_queue.specs.declared.event.Class.{Class}
use Rattle.rail_queue.specs.declared.event.Class.TheVariants as class

-- an event in one of the classes that are numbered by train
abbrev pub train_event : ℕ → Class → ℕ → ℕ → Event
train_event at class t m = record { at = at; class = class; number = t; place = m; train = t }

-- the event that gives a section free behind a train; it tells no move
abbrev pub section_event : ℕ → ℕ → ℕ → Event
section_event at x t = record { at = at; class = class.Free; number = x; place = 0; train = t }

-- the event of a command, which is numbered from 1
abbrev pub command_event : ℕ → ℕ → Event
command_event at k = record { at = at; class = class.Command; number = k; place = 0; train = 0 }

-- the events of commands, so many of which stand before them
abbrev pub command_events : ℕ → List Command → List Event
command_events k [] = []
command_events k (command ∷ commands) = command_event command.at (suc k) ∷ command_events (suc k) commands

-- the event of what a line says at a time; the section that is entered isn't told
abbrev pub event_at : ℕ → What → Event
event_at at (what.Free x t) = section_event at x t
event_at at (what.Arrive t m) = train_event at class.Arrive t m
event_at at (what.Enter t m x) = train_event at class.Enter t m
event_at at (what.Out t) = train_event at class.Out t 0
event_at at (what.Ready t m) = train_event at class.Ready t m
event_at at (what.Told k) = command_event at k
event_at at (what.Untold k) = command_event at k
event_at at _ = command_event at 0

-- the event of a line
abbrev pub event_of : Entry → Event
event_of e = event_at e.at e.what

-- the arrival that is deferred, at the end of a move counted from 1
abbrev pub deferred_event : ℕ → ℕ → Option ℕ → List Event
deferred_event t m None = []
deferred_event t m (Some at) = train_event at class.Arrive t m ∷ []

-- the events that give sections free behind a train, all at this time
abbrev pub free_events : ℕ → ℕ → List ℕ → List Event
free_events at t [] = []
free_events at t (x ∷ xs) = section_event at x t ∷ free_events at t xs

-- the frees of an overlap that are deferred with the arrival: when the timer runs out, which runs from there
abbrev pub deferred_frees : Plant → ℕ → ℕ → Option ℕ → List Event
deferred_frees plant t m None = []
deferred_frees plant t m (Some at) = free_events (at + plant.tables.overlap_time) t (own_overlap plant t m)

-- all that is deferred at the end of a move counted from 1: the arrival, and the frees of the overlap
abbrev pub deferred_of : Plant → ℕ → ℕ → Option ℕ → List Event
deferred_of plant t m arrival = deferred_event t m arrival ++ deferred_frees plant t m arrival

-- the event gives one of these sections free
abbrev pub is_free_of : List ℕ → Event → Bool
is_free_of xs event = list_any (λ x. is_of class.Free x event) xs

-- each of these sections is given free by one of the events at most
abbrev pub AreFreedOnce : List ℕ → List Event → Type 0
AreFreedOnce xs events = (x : ℕ) → is_in x xs ≡ true → count_by (is_of class.Free x) events ≤ 1

-- the lines of a move at its steps: its head enters, and the section is given free where the interval has an end
abbrev pub step_lines : Plant → ℕ → List ℕ → ℕ → List Entry
step_lines plant t adms m = gather (λ j. enter_line plant t adms m j ∷ []) (steps plant t m)
    ++ gather (λ j. free_lines t (step_section plant t m j) (end_of plant t adms m j)) (steps plant t m)

-- the lines at the end of a move: its arrival, the free lines of its overlap, after the last move the out line, else the
-- ready line of the next one
abbrev pub end_lines : Plant → ℕ → List ℕ → ℕ → List Entry
end_lines plant t adms m = arrive_line plant t adms m ∷ overlap_frees plant t adms m ++ out_lines plant t adms m ++ ready_after plant t adms m
