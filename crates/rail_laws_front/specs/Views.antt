-- What it means that a line may follow a front, with named facts.
use Rattle.std.specs.Prelude.{◌≡◌, ℕ, suc, ◌<◌, ◌⊎◌, Bool, true, false, is_some, ◌∷◌, Some, length}
use Rattle.std.specs.List.{list_any}
use Rattle.rail_base.specs.declared.history.What.{What}
use Rattle.rail_base.specs.declared.history.What.TheVariants.{Admit, Hold, End}
use Rattle.rail_base.specs.declared.history.Note.{Note}
use Rattle.rail_base.specs.declared.history.Cause.{Cause}
use Rattle.rail_rules.specs.Numbers.{comes_before, same_numbers}
use Rattle.rail_rules.specs.Places.{completes}
use Rattle.rail_rules.specs.Plant.{moves_of}
use Rattle.rail_rules.specs.Fronts.{Line, Front, instant, has_held, kept, rank, same_cause, same_entry}
use Rattle.rail_rules.specs.Orders.{Input}
use Rattle.rail_rules.specs.Events.{due_lines}
use Rattle.rail_rules.specs.Causes.{place, waits, bar, cause, could_go, is_deciding, is_settled, places_after}
use Rattle.rail_rules.specs.Lawful.{is_bare, is_hold_due, note_fits, remaining}

-- the line is an event line: no admission, no hold line and no end line
abbrev pub is_event : What → Bool
is_event (Admit t m note) = false
is_event (Hold t m why) = false
is_event End = false
is_event _ = true

-- an event line: the least due line, at the instant or after everything is settled there
pub record Happens (input : Input) (front : Front) (line : Line) : Type 0 where
  pub event : is_event line.entry.what ≡ true
  pub bare : is_bare line ≡ true
  pub due : list_any (same_entry line.entry) (due_lines input front) ≡ true
  pub least : list_any (λ d. comes_before (rank d) (rank line.entry)) (due_lines input front) ≡ false
  pub when : (line.entry.at ≡ instant front) ⊎ (is_settled input front ≡ true)

-- the admission of a move at the instant
pub record Admits (input : Input) (front : Front) (line : Line) (t m : ℕ) (note : Note) : Type 0 where
  pub what : line.entry.what ≡ Admit t m note
  pub now : line.entry.at ≡ instant front
  pub waiting : waits input front t ≡ true
  pub unbarred : is_some (bar input front t) ≡ false
  pub next : m ≡ suc (place front t)
  pub no_hold : has_held front ≡ false
  pub fits : note_fits line (place front t) note ≡ true
  pub completing : completes (moves_of input.plant) (places_after input front t) (kept input.plant (line ∷ front)) ≡ true

-- a hold line at the instant
pub record Holds (input : Input) (front : Front) (line : Line) (t m : ℕ) (why : Cause) : Type 0 where
  pub what : line.entry.what ≡ Hold t m why
  pub bare : is_bare line ≡ true
  pub now : line.entry.at ≡ instant front
  pub deciding : is_deciding input front ≡ true
  pub nobody : (u : ℕ) → could_go input front u ≡ false
  pub due : is_hold_due input front t ≡ true
  pub first : (u : ℕ) → u < t → is_hold_due input front u ≡ false
  pub next : m ≡ suc (place front t)
  pub true_cause : same_cause (Some why) (cause input front t) ≡ true

-- the end line
pub record Ends (input : Input) (front : Front) (line : Line) : Type 0 where
  pub what : line.entry.what ≡ End
  pub now : line.entry.at ≡ instant front
  pub settled : is_settled input front ≡ true
  pub nothing_due : length (due_lines input front) ≡ 0
  pub names : same_numbers line.trains (remaining input front) ≡ true

-- a line follows as an event, an admission, a hold or the end
pub data Follows (input : Input) (front : Front) (line : Line) : Type 0 where
  by_event : Happens input front line → Follows input front line
  by_admission : (t m : ℕ) (note : Note) → Admits input front line t m note → Follows input front line
  by_hold : (t m : ℕ) (why : Cause) → Holds input front line t m why → Follows input front line
  by_end : Ends input front line → Follows input front line
