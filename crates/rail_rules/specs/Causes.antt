-- Which trains wait, and why.
use Rattle.std.specs.Prelude.{ℕ, suc, ◌==◌, Bool, true, false, not, ◌&&◌, ◌||◌, cond, nat_lt, List, [], ◌∷◌, length, find, is_some, Option, Some, None}
use Rattle.std.specs.Option.{option_map}
use Rattle.rail_base.specs.declared.history.Cause.{Cause}
use Rattle.rail_base.specs.declared.history.Cause.TheVariants.{Stopped, Closed, Blocked, NoList}
use Rattle.rail_base.specs.declared.orders.Order.{Order}
use Rattle.rail_rules.specs.Numbers.{all_below, or_else, first_below}
use Rattle.rail_rules.specs.Places.{after, completes}
use Rattle.rail_rules.specs.Analysis.{finds}
use Rattle.rail_rules.specs.Plant.{trains, moves, claimed, moves_of}
use Rattle.rail_rules.specs.Fronts.{Front, instant, has_ended, admissions, places, kept, without_first, with_rest_of, same_cause, hold_of, stands}
use Rattle.rail_rules.specs.Orders.{Input, told, is_closed, is_stopped, is_cancelled}
use Rattle.rail_rules.specs.Intervals.{bars}
use Rattle.rail_rules.specs.Events.{ready_line, due_lines, is_quiet}

-- the place of a train in a front: how many of its moves are admitted
abbrev pub place : Front → ℕ → ℕ
place front t = length (admissions front t)

-- the ready line of the train's next move stands in the front, and it isn't cancelled
abbrev pub is_ready : Input → Front → ℕ → Bool
is_ready input front t = nat_lt (place front t) (moves input.plant t)
    && not (is_cancelled t (told input.commands front))
    && stands front (ready_line input.plant t (admissions front t) (place front t))

-- nothing is due at the instant of a front that has lines and hasn't ended
abbrev pub is_deciding : Input → Front → Bool
is_deciding input [] = false
is_deciding input (line ∷ before) = not (has_ended (line ∷ before)) && is_quiet (due_lines input (line ∷ before)) line.entry.at

-- the train waits
abbrev pub waits : Input → Front → ℕ → Bool
waits input front t = is_deciding input front && is_ready input front t

-- the train with an interval on the section that contains the instant of the front and bars the train
abbrev pub blocker : Input → Front → ℕ → ℕ → Option ℕ
blocker input front t x = first_below (λ u. bars input.plant t u (admissions front u) x (instant front)) (trains input.plant)

-- a stop command for the train is in force
abbrev pub stop_cause : ℕ → List Order → Option Cause
stop_cause t orders = cond (is_stopped t orders) (Some Stopped) None

-- the first of the sections that is closed
abbrev pub closed_cause : List ℕ → List Order → Option Cause
closed_cause sections orders = option_map Closed (find (λ x. is_closed x orders) sections)

-- the first of the sections that is blocked for the train, and by which train
abbrev pub blocked_cause : Input → Front → ℕ → List ℕ → Option Cause
blocked_cause input front t [] = None
blocked_cause input front t (x ∷ sections) = or_else (option_map (Blocked x) (blocker input front t x)) (blocked_cause input front t sections)

-- what bars the next move of the train at once
abbrev pub bar : Input → Front → ℕ → Option Cause
bar input front t =
    let orders : List Order = told input.commands front in
    let sections : List ℕ = claimed input.plant t (place front t) in
    or_else (stop_cause t orders) (or_else (closed_cause sections orders) (blocked_cause input front t sections))

-- the kept list as an admission of the train would repair it: pulled for a train inside, appended for an entering one
abbrev pub repaired : Input → Front → ℕ → List ℕ
repaired input front t = cond (place front t == 0)
    (with_rest_of input.plant t (kept input.plant front))
    (without_first t (kept input.plant front))

-- the places after an admission of the train
abbrev pub places_after : Input → Front → ℕ → List ℕ
places_after input front t = after (places input.plant front) t

-- the repaired list brings every train inside to its exit
abbrev pub is_repairable : Input → Front → ℕ → Bool
is_repairable input front t = completes (moves_of input.plant) (places_after input front t) (repaired input front t)

-- no list is known after an admission of the train
abbrev pub list_cause : Input → Front → ℕ → Option Cause
list_cause input front t = cond
    (is_repairable input front t || finds (moves_of input.plant) input.plant.tables.depth (places_after input front t))
    None
    (Some NoList)

-- why the next move of the train isn't admitted: the first cause that holds
abbrev pub cause : Input → Front → ℕ → Option Cause
cause input front t = or_else (bar input front t) (list_cause input front t)

-- the cause on the last hold line of a move, counted from 1
abbrev pub last_hold : Front → ℕ → ℕ → Option Cause
last_hold [] t m = None
last_hold (line ∷ before) t m = or_else (hold_of t m line.entry.what) (last_hold before t m)

-- the train could be admitted: it is ready and has no cause
abbrev pub could_go : Input → Front → ℕ → Bool
could_go input front t = is_ready input front t && not (is_some (cause input front t))

-- the last hold line of the train's next move names this cause
abbrev pub is_told_so : Input → Front → ℕ → Bool
is_told_so input front t = same_cause (last_hold front t (suc (place front t))) (cause input front t)

-- nothing is left to decide at the instant: each waiting train has a cause, and its last hold line names it
abbrev pub is_settled : Input → Front → Bool
is_settled input [] = true
is_settled input (line ∷ before) = is_deciding input (line ∷ before)
    && all_below
    (λ t. not (is_ready input (line ∷ before) t) || (is_some (cause input (line ∷ before) t) && is_told_so input (line ∷ before) t))
    (trains input.plant)
