-- The form `insert`: copies of a train between the trains of a run, each where it fits first, or why there is none.
use Rattle.std.specs.Prelude.{◌≡◌, ◌≢◌, ◌≤◌, ◌<◌, ◌⊎◌, ℕ, cond, true, false, List, map, Option, Some, None}
use Rattle.std.specs.Option.{option_map_or}
use Rattle.rail_base.specs.NameForms.{is_name}
use Rattle.rail_base.specs.declared.intervals.Interval.{Interval}
use Rattle.rail_base.specs.declared.refusals.Part.TheVariants.{Word}
use Rattle.rail_base.specs.declared.refusals.Reason.TheVariants.{NoPath, Unknown}
use Rattle.rail_base.specs.declared.refusals.Refusal.{Refusal}
use Rattle.rail_capacity.specs.declared.compression.Window.{Window}
use Rattle.rail_insert.specs.Copies.{has_stairway, obstacle_of, stairs_of}
use Rattle.rail_insert.specs.Insertions.{FitsNowhere, IsInsertion}
use Rattle.rail_insert.specs.Texts.{inserted_text}
use Rattle.rail_insert.specs.declared.insertion.Placed.{Placed}
use Rattle.rail_input.specs.Inputs.{input_in, plant_refusal, train_names}
use Rattle.rail_io.specs.Writes.{Adds, AddsPrefix}
use Rattle.rail_policy.specs.Seats.{DeskSeat, handed_in, names_of as policies_of}
use Rattle.rail_rules.specs.Fronts.{Front}
use Rattle.rail_rules.specs.Numbers.{or_else}
use Rattle.rail_rules.specs.Orders.{Input}
use Rattle.rail_rules.specs.Plant.{Plant}
use Rattle.rail_rules.specs.RunHistories.{Seat}
use Rattle.rail_stairs.specs.Stairways.{stairway}
use Rattle.rail_text.specs.Lines.{number_of_name}
use Rattle.rail_text.specs.Names.{names_of}
use Rattle.rail_command_line.specs.Forms.{Paths, Scenario}
use Rattle.rail_command_line.specs.declared.files.FileRole.TheVariants as role
use Rattle.rail_forms.specs.declared.status.Status.{Status}
use Rattle.rail_forms.specs.declared.status.Status.TheVariants.{Done, Refused}
use Rattle.rail_forms.specs.Answers.{Decides, IsAnswer, Told}
use Rattle.rail_forms.specs.Capacity.{window_empty}
use Rattle.rail_forms.specs.Files.{told_of, too_large, too_many_bytes}
use Rattle.rail_forms.specs.NotedRuns.{ReportsRun}
use Rattle.rail_forms.specs.Runs.{IsRunWithin}
use Rattle.rail_forms.specs.Scenarios.{IsAcceptedScenario, scenario_refusal}
use Rattle.rail_forms.specs.Terms.{Terms}

-- the word for the train is no train's name
abbrev pub train_unknown : Refusal
train_unknown = record { reason = Unknown; part = Word; item = 2; step = 1 }

-- the train has no interval in the run, or an open one, so there is nothing to copy
abbrev pub no_stairway : Refusal
no_stairway = record { reason = NoPath; part = Word; item = 2; step = 0 }

-- not even one copy fits in the window
abbrev pub no_place : Refusal
no_place = record { reason = NoPath; part = Word; item = 3; step = 0 }

-- the train that a word names, among trains of these names; a text that is no name is that of none
abbrev pub train_named : List (List ℕ) → List ℕ → Option ℕ
train_named names word = cond (is_name word) (number_of_name names word) None

-- why the word for a train is refused, among trains of these names: it is no name of one
abbrev pub name_refusal : List (List ℕ) → List ℕ → Option Refusal
name_refusal names word = option_map_or (λ _. None) (train_named names word) (Some train_unknown)

-- why the word for a train of the plant is refused
abbrev pub train_refusal : Plant → List ℕ → Option Refusal
train_refusal plant word = name_refusal (train_names plant.tables) word

-- the text is that of an insertion of so many copies of the train among the blocking intervals of the history, of which
-- open ones stay open
pub record IsInsertionText (word : List ℕ) (window : Window) (count : ℕ) (input : Input) (front : Front) (text : List ℕ) : Type 0 where
  pub train : ℕ
  pub copies : List Placed
  pub named : train_named (train_names input.plant.tables) word ≡ Some train
  pub insertion : IsInsertion (stairway input.plant front) train window count copies
  pub is : text ≡ inserted_text (names_of input.plant) train copies

-- why no copy of the train is placed among the intervals: it has none or an open one; or the first copy fits at no begin
-- of the window
abbrev pub IsNoPathAmong : List Interval → ℕ → Window → Refusal → Type 0
IsNoPathAmong intervals train window refusal =
    ((refusal ≡ no_stairway) × (has_stairway intervals train ≡ false))
    ⊎ ((refusal ≡ no_place) × (has_stairway intervals train ≡ true)
    × FitsNowhere (stairs_of intervals train) (map obstacle_of intervals) window)

-- of a run history of the input there is no path, for this reason
pub record IsRefusedRun (word : List ℕ) (window : Window) (refusal : Refusal) (input : Input) (seats : List Seat) : Type 0 where
  pub train : ℕ
  pub front : Front
  pub named : train_named (train_names input.plant.tables) word ≡ Some train
  pub run : IsRunWithin input seats front
  pub none : IsNoPathAmong (stairway input.plant front) train window refusal

-- the refusal with which a command ends
abbrev pub refused_with : Status → Option Refusal
refused_with (Refused refusal) = Some refusal
refused_with status = None

-- the word for the train is refused behind all else, and what the run refuses behind it
abbrev pub with_train : List ℕ → Option Refusal → Option Refusal → Input → Option Refusal
with_train word late first input = or_else first (or_else (train_refusal input.plant word) late)

-- what a status says of the paths, where so much is refused before the run: a refusal is that one, or else one of the run
abbrev pub IsPathsAnswer : List ℕ → Window → ℕ → Option Refusal → Input → List Seat → Option (List ℕ) → Option (List ℕ) → Status → Type 0
IsPathsAnswer word window count first input seats before now (Refused refusal) =
    (first ≡ Some refusal) ⊎ ((first ≡ None) × IsRefusedRun word window refusal input seats)
IsPathsAnswer word window count first input seats before now status =
    IsAnswer first (ReportsRun (IsInsertionText word window count) input seats (Adds before now))
    (ReportsRun (IsInsertionText word window count) input seats (AddsPrefix before now)) status

-- what is answered to a train, a window and a count on the scenario, with this deck
pub record AnswersPaths (word : List ℕ) (window : Window) (count : ℕ) (scenario : Scenario) (deck : List DeskSeat) (told : Told)
    (before now : Option (List ℕ)) (status : Status) : Type 0 where
  -- where the bytes of all files are told
  pub all : (bytes : List ℕ) (calls orders : Option (List ℕ)) → told scenario.scene ≡ Some bytes
      → told_of told scenario.timetable ≡ Some calls → told_of told scenario.commands ≡ Some orders
      → IsPathsAnswer word window count (scenario_refusal (with_train word None) bytes calls orders deck)
      (input_in bytes calls orders (policies_of deck)) (handed_in deck) before now status
  -- where those of the scene are told, whatever the other files are
  pub of_size : (bytes : List ℕ) → told scenario.scene ≡ Some bytes → Decides (too_large role.Scene bytes) status
  pub of_scene : (bytes : List ℕ) → told scenario.scene ≡ Some bytes
      → status ≢ Refused (too_many_bytes role.Timetable) → status ≢ Refused (too_many_bytes role.Commands)
      → Decides (or_else (too_large role.Scene bytes) (plant_refusal bytes)) status

-- what is answered where paths are asked for
pub record AnswersInsertion (paths : Paths) (deck : List DeskSeat) (told : Told) (before now : Option (List ℕ)) (status : Status) : Type 0 where
  -- the window is empty, which is refused before any file
  pub of_words : paths.to ≤ paths.from → status ≡ Refused window_empty
  pub of_run : paths.from < paths.to
      → AnswersPaths paths.train (record { from = paths.from; to = paths.to }) paths.count paths.scenario deck told before now status

-- the command ends because no path is free: the train has no stairway in the run, or not even one copy of it fits
abbrev pub IsNoPath : Status → Type 0
IsNoPath status = (status ≡ Refused no_stairway) ⊎ (status ≡ Refused no_place)

-- the terms of `insert`, which is done also where no path is free
abbrev pub insert_terms : Terms Paths
insert_terms = record {
  answers = λ paths deck told before now status. AnswersInsertion paths deck told before now status;
  accepted = λ paths deck told. (paths.from < paths.to)
      × IsAcceptedScenario (with_train paths.train None) deck told paths.scenario;
  done = λ status. (status ≡ Done) ⊎ IsNoPath status;
  alone = λ paths. paths.to ≤ paths.from;
}
