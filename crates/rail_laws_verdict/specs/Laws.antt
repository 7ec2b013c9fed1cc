-- The laws, each by itself.
use Rattle.std.specs.Prelude.{ℕ, suc, ◌==◌, Bool, true, false, not, ◌&&◌, ◌||◌, ◌∷◌, cond, length, Some}
use Rattle.rail_base.specs.declared.history.What.{What}
use Rattle.rail_base.specs.declared.history.What.TheVariants.{Admit, Hold, End}
use Rattle.rail_base.specs.declared.history.Note.TheVariants.{Fresh}
use Rattle.rail_base.specs.declared.history.Cause.{Cause}
use Rattle.rail_rules.specs.Numbers.{all_below, same_numbers}
use Rattle.rail_rules.specs.Places.{completes}
use Rattle.rail_rules.specs.Plant.{moves_of, trains}
use Rattle.rail_rules.specs.Fronts.{Line, Front, instant, kept, same_cause}
use Rattle.rail_rules.specs.Orders.{Input}
use Rattle.rail_rules.specs.Events.{due_lines, is_least}
use Rattle.rail_rules.specs.Causes.{cause, could_go, last_hold, place, places_after, waits}
use Rattle.rail_rules.specs.Lawful.{is_bare, is_hold_due, note_fits, remaining}
use Rattle.rail_laws_verdict.specs.Verdicts.{is_forbidden, is_misplaced, is_occupied, is_undecided}

-- law 1: an event line or an end line that isn't the due one
abbrev pub is_not_due : Input → Front → Line → What → Bool
is_not_due input front line (Admit t m note) = false
is_not_due input front line (Hold t m why) = false
is_not_due input front line End =
    not ((line.entry.at == instant front) && (length (due_lines input front) == 0)
    && same_numbers line.trains (remaining input front))
is_not_due input front line _ = not (is_least (due_lines input front) line.entry)

-- law 2: an admission of a train that isn't waiting at this instant, or of another move, or after a hold line of the round
abbrev pub is_out_of_place : Input → Front → Line → What → Bool
is_out_of_place input front line (Admit t m note) = is_misplaced input front line t m
is_out_of_place input front line _ = false

-- law 3: an admission of a stopped train, or over a closed section of those that it claims
abbrev pub is_against_orders : Input → Front → What → Bool
is_against_orders input front (Admit t m note) = is_forbidden input front t
is_against_orders input front _ = false

-- law 4: an admission over a section with an interval that contains the instant, which isn't of the overlap of the train's own last move
abbrev pub is_over_occupied : Input → Front → What → Bool
is_over_occupied input front (Admit t m note) = is_occupied input front t
is_over_occupied input front _ = false

-- law 5: an admission after which the kept list doesn't complete, or whose note doesn't fit
abbrev pub is_without_list : Input → Front → Line → What → Bool
is_without_list input front line (Admit t m note) =
    not (note_fits line (place front t) note
    && completes (moves_of input.plant) (places_after input front t) (kept input.plant (line ∷ front)))
is_without_list input front line _ = false

-- law 6 of a hold line: its train isn't waiting at this instant, or another move is named; its cause isn't true, or was
-- named by the last one; an earlier train has a hold line due; or some train could be admitted
abbrev pub is_wrong_hold : Input → Front → Line → ℕ → ℕ → Cause → Bool
is_wrong_hold input front line t m why = not ((line.entry.at == instant front) && waits input front t && (m == suc (place front t)))
    || not (same_cause (Some why) (cause input front t)) || same_cause (last_hold front t m) (Some why)
    || not (all_below (λ u. not (is_hold_due input front u)) t)
    || not (all_below (λ u. not (could_go input front u)) (trains input.plant))

-- law 6: a wrong hold line, or another line than an admission where something is left to decide
abbrev pub is_untimely : Input → Front → Line → What → Bool
is_untimely input front line (Admit t m note) = false
is_untimely input front line (Hold t m why) = is_wrong_hold input front line t m why
is_untimely input front line _ = is_undecided input front

-- some law applies to the line
abbrev pub does_break : Input → Front → Line → What → Bool
does_break input front line what = is_not_due input front line what || is_out_of_place input front line what
    || is_against_orders input front what
    || is_over_occupied input front what || is_without_list input front line what || is_untimely input front line what

-- only a fresh admission and an end line bring trains
abbrev pub brings_its_own : Line → What → Bool
brings_its_own line (Admit t m Fresh) = true
brings_its_own line End = true
brings_its_own line _ = is_bare line

-- the least law that applies to a line, but the sixth before the first
abbrev pub least_law : Input → Front → Line → What → ℕ
least_law input front line what = cond (is_untimely input front line what) 6 (cond (is_not_due input front line what) 1
    (cond (is_out_of_place input front line what) 2
    (cond (is_against_orders input front what) 3 (cond (is_over_occupied input front what) 4 5))))
