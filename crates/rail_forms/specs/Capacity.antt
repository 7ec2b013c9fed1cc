-- The form `capacity`: the compression of a run over a line, and how full the line is.
use Rattle.std.specs.Prelude.{◌≡◌, ℕ, suc, ◌/◌, ◌%◌, ◌==◌, cond, nat_le, length, List, [], ◌∷◌, ◌++◌, codes, decimal, flat_map, map, unwrap_or, Option, Some, None}
use Rattle.std.specs.List.{filter_map, list_any, slice_split}
use Rattle.std.specs.Option.{option_map_or}
use Rattle.rail_base.specs.Clock.{two_digits}
use Rattle.rail_base.specs.NameForms.{is_name}
use Rattle.rail_base.specs.declared.refusals.Part.TheVariants.{Word}
use Rattle.rail_base.specs.declared.refusals.Reason.{Reason}
use Rattle.rail_base.specs.declared.refusals.Reason.TheVariants.{LineEmpty, Repeated, Unknown, WindowEmpty}
use Rattle.rail_base.specs.declared.refusals.Refusal.{Refusal}
use Rattle.rail_capacity.specs.declared.compression.Window.{Window}
use Rattle.rail_capacity.specs.declared.shifts.Shift.{Shift}
use Rattle.rail_capacity.specs.declared.shifts.Tight.{Tight}
use Rattle.rail_capacity.specs.declared.shifts.Tight.TheVariants.{After, Start}
use Rattle.rail_capacity.specs.BlockingTimes.{taken_blocks}
use Rattle.rail_capacity.specs.Compression.{IsCompression}
use Rattle.rail_text.specs.Lines.{number_of_name}
use Rattle.rail_input.specs.Inputs.{section_names}
use Rattle.rail_io.specs.Writes.{Adds, AddsPrefix}
use Rattle.rail_policy.specs.Seats.{DeskSeat}
use Rattle.rail_rules.specs.Fronts.{Front}
use Rattle.rail_rules.specs.Numbers.{or_else}
use Rattle.rail_rules.specs.Orders.{Input}
use Rattle.rail_rules.specs.Plant.{Plant}
use Rattle.rail_rules.specs.Texts.{spaced}
use Rattle.rail_stairs.specs.Stairways.{ended_at, ended_by, stairway}
use Rattle.rail_command_line.specs.Forms.{Scenario, Study}
use Rattle.rail_forms.specs.declared.status.Status.{Status}
use Rattle.rail_forms.specs.declared.status.Status.TheVariants.{Refused}
use Rattle.rail_forms.specs.Answers.{Told}
use Rattle.rail_text.specs.Names.{NameLists, names_of, section_name, train_name}
use Rattle.rail_forms.specs.NotedRuns.{ReportsRun}
use Rattle.rail_forms.specs.Scenarios.{AnswersScenario, IsAcceptedScenario}
use Rattle.rail_forms.specs.Terms.{Terms, is_done}

-- the word for the line is the empty one
abbrev pub line_empty : Refusal
line_empty = record { reason = LineEmpty; part = Word; item = 2; step = 0 }

-- the window does not begin before it ends
abbrev pub window_empty : Refusal
window_empty = record { reason = WindowEmpty; part = Word; item = 3; step = 0 }

-- why the words are refused before any file
abbrev pub study_refusal : List ℕ → Window → Option Refusal
study_refusal line window =
    cond (length line == 0) (Some line_empty) (cond (nat_le window.to window.from) (Some window_empty) None)

-- the pieces of a line, which stand between commas
abbrev pub pieces : List ℕ → List (List ℕ)
pieces line = slice_split (λ byte. byte == 44) line

-- the section that a piece names, among sections of these names; a text that is no name is that of none
abbrev pub section_named : List (List ℕ) → List ℕ → Option ℕ
section_named names piece = cond (is_name piece) (number_of_name names piece) None

-- the sections that pieces name
abbrev pub sections_on : List (List ℕ) → List (List ℕ) → List ℕ
sections_on names pieces = filter_map (section_named names) pieces

-- the refusal of a piece, which counts from 1: the line is the second word
abbrev pub piece_refused : Reason → ℕ → Refusal
piece_refused reason k = record { reason = reason; part = Word; item = 2; step = k }

-- why a piece is refused behind those for these sections: it is no section's name, or its section stood before
abbrev pub piece_refusal : List (List ℕ) → List ℕ → ℕ → List ℕ → Option Refusal
piece_refusal names before k piece = option_map_or
    (λ section. cond (list_any (λ other. section == other) before) (Some (piece_refused Repeated k)) None)
    (section_named names piece) (Some (piece_refused Unknown k))

-- the first refusal of pieces, of which the first has the number k
abbrev pub pieces_refusal : List (List ℕ) → List ℕ → ℕ → List (List ℕ) → Option Refusal
pieces_refusal names before k [] = None
pieces_refusal names before k (piece ∷ others) = or_else (piece_refusal names before k piece)
    (pieces_refusal names (before ++ sections_on names (piece ∷ [])) (suc k) others)

-- the line of a plant's sections that a word spells
abbrev pub line_of : Plant → List ℕ → List ℕ
line_of plant line = sections_on (section_names plant.tables) (pieces line)

-- why the word for a line of the plant is refused
abbrev pub line_refusal : Plant → List ℕ → Option Refusal
line_refusal plant line = pieces_refusal (section_names plant.tables) [] 1 (pieces line)

-- what a train touches
abbrev pub tight_words : NameLists → Tight → List (List ℕ)
tight_words names Start = codes "start" ∷ []
tight_words names (After train section) = codes "after" ∷ train_name names train ∷ section_name names section ∷ []

-- the line of a train: how much earlier it passes, in tenths of a second, and what it touches then
abbrev pub shift_line : NameLists → Shift → List ℕ
shift_line names shift =
    spaced (codes "train" ∷ train_name names shift.train ∷ decimal shift.earlier ∷ tight_words names shift.tight)

-- a rate in hundredths of a percent, as percent with two digits behind the point
abbrev pub rate_word : ℕ → List ℕ
rate_word rate = decimal (rate / 100) ++ 46 ∷ two_digits (rate % 100)

-- the lines of the occupancy, in tenths of a second, and of the rate
abbrev pub rate_lines : ℕ → ℕ → List ℕ
rate_lines occupancy rate = spaced (codes "occupancy" ∷ decimal occupancy ∷ []) ++ spaced (codes "rate" ∷ rate_word rate ∷ [])

-- the text of a compression: the trains that have a blocking time in it by number, the occupancy and the rate
abbrev pub capacity_text : NameLists → List Shift → ℕ → ℕ → List ℕ
capacity_text names shifts occupancy rate = flat_map (shift_line names) shifts ++ rate_lines occupancy rate

-- the text is that of the compression of the blocking times that the history has on the line in the window, where open
-- ones are ended at the end line
pub record IsCapacityText (line : List ℕ) (window : Window) (input : Input) (front : Front) (text : List ℕ) : Type 0 where
  pub shifts : List Shift
  pub occupancy : ℕ
  pub rate : ℕ
  pub compression : IsCompression
      (taken_blocks (map (ended_by (unwrap_or (ended_at front) 0)) (stairway input.plant front)) (line_of input.plant line) window)
      window shifts occupancy rate
  pub is : text ≡ capacity_text (names_of input.plant) shifts occupancy rate

-- a capacity study refuses its line behind all else
abbrev pub with_line : List ℕ → Option Refusal → Input → Option Refusal
with_line line first input = or_else first (line_refusal input.plant line)

-- the capacity study of the line in the window, on the scenario, with this deck
abbrev pub AnswersStudy : List ℕ → Window → Scenario → List DeskSeat → Told → Option (List ℕ) → Option (List ℕ) → Status → Type 0
AnswersStudy line window scenario deck told before now status = AnswersScenario (with_line line)
    (λ input seats. ReportsRun (IsCapacityText line window) input seats (Adds before now))
    (λ input seats. ReportsRun (IsCapacityText line window) input seats (AddsPrefix before now)) scenario deck told status

-- what is answered to a line, a window and a scenario
pub record AnswersCapacity (line : List ℕ) (window : Window) (scenario : Scenario) (deck : List DeskSeat) (told : Told)
    (before now : Option (List ℕ)) (status : Status) : Type 0 where
  -- the words are refused before any file
  pub of_words : (refusal : Refusal) → study_refusal line window ≡ Some refusal → status ≡ Refused refusal
  pub of_run : study_refusal line window ≡ None → AnswersStudy line window scenario deck told before now status

-- a study of the line in the window is refused before any file
abbrev pub IsEmptyStudy : List ℕ → Window → Type 0
IsEmptyStudy line window = (refusal : Refusal) × (study_refusal line window ≡ Some refusal)

-- the window of a study
abbrev pub window_of : Study → Window
window_of study = record { from = study.from; to = study.to }

-- the terms of `capacity`
abbrev pub capacity_terms : Terms Study
capacity_terms = record {
  answers = λ study deck told before now status. AnswersCapacity study.line (window_of study) study.scenario deck told before now status;
  accepted = λ study deck told. (study_refusal study.line (window_of study) ≡ None)
      × IsAcceptedScenario (with_line study.line) deck told study.scenario;
  done = is_done;
  alone = λ study. IsEmptyStudy study.line (window_of study);
}
