-- Event lines, and which of them are due.
use Rattle.std.specs.Prelude.{ℕ, suc, ◌==◌, min, Bool, not, ◌&&◌, ◌||◌, cond, List, [], ◌∷◌, ◌++◌, length, filter, Option, Some, None}
use Rattle.std.specs.List.{list_any}
use Rattle.rail_base.specs.declared.history.Entry.{Entry}
use Rattle.rail_base.specs.declared.history.What.TheVariants.{Free, Arrive, Enter, Out, Ready, Told, Untold}
use Rattle.rail_base.specs.declared.orders.Command.{Command}
use Rattle.rail_rules.specs.Numbers.{gather, comes_before}
use Rattle.rail_rules.specs.Plant.{Plant, trains, moves, steps, claims, step_section}
use Rattle.rail_rules.specs.Fronts.{Front, at_time, instant, admissions, rank, same_entry, stands}
use Rattle.rail_rules.specs.Orders.{Input, told, is_cancelled, takes_effect}
use Rattle.rail_rules.specs.Times.{ready, enter, arrive, out}
use Rattle.rail_rules.specs.Intervals.{freed_at}

-- Lines of a train, with its admissions; moves and steps are counted from 0 here and from 1 in the lines.

-- the line of the head's entering the section of a step
abbrev pub enter_line : Plant → ℕ → List ℕ → ℕ → ℕ → Entry
enter_line plant t adms m j = at_time (enter plant t adms m j) (Enter t (suc m) (step_section plant t m j))

-- the line of the arrival at the end of a move
abbrev pub arrive_line : Plant → ℕ → List ℕ → ℕ → Entry
arrive_line plant t adms m = at_time (arrive plant t adms m) (Arrive t (suc m))

-- the free line of a section, where it is given free
abbrev pub free_lines : ℕ → ℕ → Option ℕ → List Entry
free_lines t x None = []
free_lines t x (Some time) = at_time time (Free x t) ∷ []

-- the out line, after the last move
abbrev pub out_lines : Plant → ℕ → List ℕ → ℕ → List Entry
out_lines plant t adms m = cond (suc m == moves plant t) (at_time (out plant t adms m) (Out t) ∷ []) []

-- the line of a move that is ready
abbrev pub ready_line : Plant → ℕ → List ℕ → ℕ → Entry
ready_line plant t adms m = at_time (ready plant t adms m) (Ready t (suc m))

-- the event lines of an admitted move
abbrev pub move_events : Plant → ℕ → List ℕ → ℕ → List Entry
move_events plant t adms m = gather (λ j. enter_line plant t adms m j ∷ []) (steps plant t m)
    ++ arrive_line plant t adms m ∷ []
    ++ gather (λ j. free_lines t (step_section plant t m j) (freed_at plant t adms m j)) (claims plant t m)
    ++ out_lines plant t adms m

-- the event lines of the admitted moves of a train
abbrev pub moved_events : Plant → ℕ → List ℕ → List Entry
moved_events plant t adms = gather (move_events plant t adms) (length adms)

-- the ready lines of a train: of its first move, and of each move after an admitted one
abbrev pub ready_events : Plant → ℕ → List ℕ → List Entry
ready_events plant t adms = gather (λ m. ready_line plant t adms m ∷ []) (min (suc (length adms)) (moves plant t))

-- the event lines of a train; a cancelled one has no ready line
abbrev pub train_events : Plant → ℕ → List ℕ → Bool → List Entry
train_events plant t adms cancelled = moved_events plant t adms ++ cond cancelled [] (ready_events plant t adms)

-- the event lines of the admitted moves of all trains
abbrev pub moved_lines : Plant → Front → List Entry
moved_lines plant front = gather (λ t. moved_events plant t (admissions front t)) (trains plant)

-- the event lines of all trains
abbrev pub events : Input → Front → List Entry
events input front = gather
    (λ t. train_events input.plant t (admissions front t) (is_cancelled t (told input.commands front)))
    (trains input.plant)

-- the line of a command, counted from 0: told where its order takes effect
abbrev pub command_line : Input → Front → Command → ℕ → Entry
command_line input front command k = at_time command.at
    (cond (takes_effect input front (told input.commands front) command.what) (Told (suc k)) (Untold (suc k)))

-- the line of a command stands in the front, told or untold
abbrev pub is_written : Front → Command → ℕ → Bool
is_written front command k = stands front (at_time command.at (Told (suc k))) || stands front (at_time command.at (Untold (suc k)))

-- the lines of the commands that don't stand in the front, the first of which is counted k
abbrev pub commands_due : Input → Front → ℕ → List Command → List Entry
commands_due input front k [] = []
commands_due input front k (command ∷ commands) =
    cond (is_written front command k) [] (command_line input front command k ∷ [])
    ++ commands_due input front (suc k) commands

-- the due lines: the event lines that don't stand in the front
abbrev pub due_lines : Input → Front → List Entry
due_lines input front = filter (λ e. not (stands front e)) (events input front) ++ commands_due input front 0 input.commands

-- the entry is the least of the due lines, by time, class and number
abbrev pub is_least : List Entry → Entry → Bool
is_least due e = list_any (same_entry e) due && not (list_any (λ d. comes_before (rank d) (rank e)) due)

-- no due line has the instant of the front
abbrev pub is_quiet : List Entry → ℕ → Bool
is_quiet due instant = not (list_any (λ (d : Entry). d.at == instant) due)
