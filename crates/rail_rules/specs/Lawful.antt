-- Which line may follow a front, and which histories are lawful.
use Rattle.std.specs.Prelude.{ℕ, suc, ◌==◌, Bool, true, false, not, ◌&&◌, ◌||◌, nat_lt, is_some, List, [], ◌∷◌, length, filter, Some}
use Rattle.std.specs.List.{list_any}
use Rattle.rail_base.specs.declared.history.What.{What}
use Rattle.rail_base.specs.declared.history.What.TheVariants.{Out, Admit, Hold, End}
use Rattle.rail_base.specs.declared.history.Note.{Note}
use Rattle.rail_base.specs.declared.history.Note.TheVariants.{Pulled, Appended, Fresh}
use Rattle.rail_base.specs.declared.history.Cause.{Cause}
use Rattle.rail_rules.specs.Numbers.{all_below, listed, same_numbers}
use Rattle.rail_rules.specs.Places.{completes}
use Rattle.rail_rules.specs.Plant.{trains, moves_of}
use Rattle.rail_rules.specs.Fronts.{Line, Front, instant, has_ended, has_held, kept, same_cause}
use Rattle.rail_rules.specs.Orders.{Input, told, is_cancelled}
use Rattle.rail_rules.specs.Events.{due_lines, is_least}
use Rattle.rail_rules.specs.Causes.{place, is_ready, is_deciding, waits, bar, cause, could_go, is_told_so, is_settled, places_after}

-- the line brings no trains
abbrev pub is_bare : Line → Bool
is_bare line = length line.trains == 0

-- an event line: the least due line, at the instant of the front or after everything is settled there
abbrev pub may_happen : Input → Front → Line → Bool
may_happen input front line = is_bare line && is_least (due_lines input front) line.entry
    && ((line.entry.at == instant front) || is_settled input front)

-- the note fits the train's place: only a train inside is pulled, only an entering one appended, and a fresh list isn't empty
abbrev pub note_fits : Line → ℕ → Note → Bool
note_fits line place Pulled = is_bare line && nat_lt 0 place
note_fits line place Appended = is_bare line && (place == 0)
note_fits line place Fresh = not (is_bare line)

-- an admit line at the instant: its train waits and isn't stopped, and no section that it claims is closed or blocked; it is
-- the train's next move; no hold line stands before it; and the kept list completes after it
abbrev pub may_admit : Input → Front → Line → ℕ → ℕ → Note → Bool
may_admit input front line t m note = (line.entry.at == instant front) && waits input front t && not (is_some (bar input front t))
    && (m == suc (place front t)) && not (has_held front) && note_fits line (place front t) note
    && completes (moves_of input.plant) (places_after input front t) (kept input.plant (line ∷ front))

-- a hold line is due for the train: it is ready, and its last hold line doesn't name its cause
abbrev pub is_hold_due : Input → Front → ℕ → Bool
is_hold_due input front t = is_ready input front t && not (is_told_so input front t)

-- a hold line at the instant: nobody could be admitted, and its train is the first for
-- which a hold line is due, with its next move and its cause
abbrev pub may_hold : Input → Front → Line → ℕ → ℕ → Cause → Bool
may_hold input front line t m why = is_bare line && (line.entry.at == instant front) && is_deciding input front
    && all_below (λ u. not (could_go input front u)) (trains input.plant)
    && is_hold_due input front t && all_below (λ u. not (is_hold_due input front u)) t
    && (m == suc (place front t)) && same_cause (Some why) (cause input front t)

-- the line is an out line of the train
abbrev pub is_out_line : ℕ → What → Bool
is_out_line t (Out u) = u == t
is_out_line t _ = false

-- the train's out line stands in the front
abbrev pub is_out : Front → ℕ → Bool
is_out front t = list_any (λ (line : Line). is_out_line t line.entry.what) front

-- the trains that are neither out nor cancelled, by number
abbrev pub remaining : Input → Front → List ℕ
remaining input front = filter (λ t. not (is_out front t || is_cancelled t (told input.commands front)))
    (listed (λ t. t) (trains input.plant))

-- the end line: everything is settled and nothing is due; it has the instant of the front and names the trains that remain
abbrev pub may_end : Input → Front → Line → Bool
may_end input front line = (line.entry.at == instant front) && is_settled input front && (length (due_lines input front) == 0)
    && same_numbers line.trains (remaining input front)

-- the line may follow, by its kind
abbrev pub may_follow_as : Input → Front → Line → What → Bool
may_follow_as input front line (Admit t m note) = may_admit input front line t m note
may_follow_as input front line (Hold t m why) = may_hold input front line t m why
may_follow_as input front line End = may_end input front line
may_follow_as input front line _ = may_happen input front line

-- the line may follow the front
abbrev pub may_follow : Input → Front → Line → Bool
may_follow input front line = not (has_ended front) && may_follow_as input front line line.entry.what

-- a front is lawful where each of its lines may follow the lines before it
abbrev pub is_lawful : Input → Front → Bool
is_lawful input [] = true
is_lawful input (line ∷ before) = is_lawful input before && may_follow input before line

-- a front is lawful to the end where it is lawful and its last line is an end line
abbrev pub is_complete : Input → Front → Bool
is_complete input front = is_lawful input front && has_ended front
