-- Counting event lines: those written, those to come, and those of the admissions.
use Rattle.std.specs.Prelude.{ℕ, ◌+◌, Bool, true, false, not, cond, List, [], ◌∷◌, ◌++◌}
use Rattle.std.specs.List.{filter}
use Rattle.rail_base.specs.declared.history.Entry.{Entry}
use Rattle.rail_base.specs.declared.history.What.{What}
use Rattle.rail_base.specs.declared.history.What.TheVariants.{Free, Arrive, Enter, Out, Ready}
use Rattle.rail_rules.specs.Numbers.{gather}
use Rattle.rail_rules.specs.Plant.{Plant, trains}
use Rattle.rail_rules.specs.Fronts.{Front, admissions, stands}
use Rattle.rail_rules.specs.Events.{train_events}

-- how many entries pass the test
abbrev pub tally : (Entry → Bool) → List Entry → ℕ
tally p [] = 0
tally p (e ∷ es) = cond (p e) 1 0 + tally p es

-- the line is an event line of a train: no line of a command, admission, hold line or end line
abbrev pub is_train_event : What → Bool
is_train_event (Free x t) = true
is_train_event (Arrive t m) = true
is_train_event (Enter t m x) = true
is_train_event (Out t) = true
is_train_event (Ready t m) = true
is_train_event _ = false

-- the event lines of trains that stand in the front
abbrev pub written : Front → List Entry
written [] = []
written (line ∷ before) = cond (is_train_event line.entry.what) (line.entry ∷ []) [] ++ written before

-- all event lines of the admissions, also the ready lines of cancelled trains
abbrev pub all_events : Plant → Front → List Entry
all_events plant front = gather (λ t. train_events plant t (admissions front t) false) (trains plant)

-- those that don't stand in the front
abbrev pub to_come : Plant → Front → List Entry
to_come plant front = filter (λ e. not (stands front e)) (all_events plant front)
