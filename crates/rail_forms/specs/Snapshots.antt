-- The forms `save` and `resume`: a snapshot of a run, and the lines that follow it.
use Rattle.std.specs.Prelude.{◌≡◌, ◌⊎◌, ℕ, ◌<◌, ◌≤◌, List, [], ◌++◌, length, reverse, Option, Some, None}
use Rattle.std.specs.Option.{option_map}
use Rattle.rail_base.specs.declared.refusals.Reason.TheVariants.{SnapshotForm, SnapshotOther}
use Rattle.rail_base.specs.declared.refusals.Refusal.{Refusal}
use Rattle.rail_io.specs.Writes.{Adds, AddsPrefix}
use Rattle.rail_input.specs.Inputs.{input_in}
use Rattle.rail_policy.specs.Seats.{DeskSeat, handed_in, names_of}
use Rattle.rail_rules.specs.Fronts.{Front, Line}
use Rattle.rail_rules.specs.Numbers.{or_else}
use Rattle.rail_rules.specs.Orders.{Input}
use Rattle.rail_rules.specs.RunHistories.{Seat}
use Rattle.rail_rules.specs.Texts.{text}
use Rattle.rail_save.specs.RunLines.{other_behind}
use Rattle.rail_save.specs.Snapshots.{IsFirstUnread, IsSnapshot, snapshot}
use Rattle.rail_text.specs.Lines.{refusal_at}
use Rattle.rail_command_line.specs.Forms.{Saving, Scenario, ScenarioAnd}
use Rattle.rail_forms.specs.declared.status.Status.{Status}
use Rattle.rail_forms.specs.Answers.{Decides, IsAnswer, Told}
use Rattle.rail_forms.specs.Runs.{IsRunInPart, IsRunWithin}
use Rattle.rail_forms.specs.Scenarios.{AnswersScenario, IsAcceptedScenario, nothing_else}
use Rattle.rail_command_line.specs.declared.files.FileRole.TheVariants as role
use Rattle.rail_forms.specs.Files.{told_of}
use Rattle.rail_forms.specs.Pasts.{AnswersPast, past_refusal}
use Rattle.rail_forms.specs.Terms.{Terms, is_done, never}

-- the front is a first part of a run of the input that has so many lines, or a whole run that has fewer
pub record IsRunUpTo (count : ℕ) (input : Input) (seats : List Seat) (front : Front) : Type 0 where
  pub part : IsRunInPart input seats front
  pub counted : (length front ≡ count) ⊎ ((length front < count) × IsRunWithin input seats front)

-- the bytes added are the snapshot after so many lines of a run
pub record SavesInput (count : ℕ) (input : Input) (seats : List Seat) (before now : Option (List ℕ)) : Type 0 where
  pub front : Front
  pub run : IsRunUpTo count input seats front
  pub adds : Adds before now (snapshot input.plant front)

-- the bytes added are a first part of the snapshot of at most so many lines of a run
pub record SavesInputInPart (count : ℕ) (input : Input) (seats : List Seat) (before now : Option (List ℕ)) : Type 0 where
  pub front : Front
  pub run : IsRunInPart input seats front
  pub few : length front ≤ count
  pub adds : AddsPrefix before now (snapshot input.plant front)

-- the bytes added are the text of lines which follow these ones, and with them are a run history of the input
pub record ResumesInput (lines : List Line) (input : Input) (seats : List Seat) (before now : Option (List ℕ)) : Type 0 where
  pub more : Front
  pub run : IsRunWithin input seats (more ++ reverse lines)
  pub adds : Adds before now (text input.plant more)

-- the bytes added are a first part of the text of lines which follow these ones, and with them are a first part of a run
pub record ResumesInputInPart (lines : List Line) (input : Input) (seats : List Seat) (before now : Option (List ℕ)) : Type 0 where
  pub more : Front
  pub run : IsRunInPart input seats (more ++ reverse lines)
  pub adds : AddsPrefix before now (text input.plant more)

-- why the lines of a snapshot are refused: of the first with which they are no first part of a run, counted in the snapshot,
-- whose first line is the header
abbrev pub lines_refusal : Input → List Seat → List Line → Option Refusal
lines_refusal input seats lines = option_map (refusal_at SnapshotOther) (other_behind input seats [] 2 lines)

-- what is answered to a snapshot file, where so much is refused without it: where its bytes are a snapshot of lines, what
-- follows these in a run; where a line is the first that is none, its refusal
pub record AnswersSnapshot (first : Option Refusal) (input : Input) (seats : List Seat) (bytes : List ℕ)
    (before now : Option (List ℕ)) (status : Status) : Type 0 where
  pub read : (lines : List Line) → IsSnapshot input.plant bytes lines → IsAnswer (or_else first (lines_refusal input seats lines))
      (ResumesInput lines input seats before now) (ResumesInputInPart lines input seats before now) status
  pub wrong : (number : ℕ) → IsFirstUnread input.plant bytes number
      → IsAnswer (or_else first (Some (refusal_at SnapshotForm number))) ⊥ ⊥ status
  -- whatever the snapshot is
  pub of_first : Decides first status

-- the snapshot after so many lines of the scenario's run, with this deck
abbrev pub AnswersSave : ℕ → Scenario → List DeskSeat → Told → Option (List ℕ) → Option (List ℕ) → Status → Type 0
AnswersSave count scenario deck told before now status = AnswersScenario nothing_else
    (λ input seats. SavesInput count input seats before now)
    (λ input seats. SavesInputInPart count input seats before now) scenario deck told status

-- the terms of `save`
abbrev pub save_terms : Terms Saving
save_terms = record {
  answers = λ saving deck told before now status. AnswersSave saving.count saving.scenario deck told before now status;
  accepted = λ saving deck told. IsAcceptedScenario nothing_else deck told saving.scenario;
  done = is_done;
  alone = never;
}

-- the lines of the scenario's run behind the snapshot in the file of this name, with this deck
abbrev pub AnswersResume : Scenario → List ℕ → List DeskSeat → Told → Option (List ℕ) → Option (List ℕ) → Status → Type 0
AnswersResume scenario snapshot deck told before now status = AnswersPast role.Snapshot
    (λ first input seats bytes. AnswersSnapshot first input seats bytes before now status) scenario snapshot deck told status

-- the bytes of the files of a resumed run are told, the snapshot's are those of lines of a run, and nothing is refused
pub record IsAcceptedResume (scenario : Scenario) (snapshot : List ℕ) (deck : List DeskSeat) (told : Told) : Type 0 where
  pub bytes : List ℕ
  pub calls : Option (List ℕ)
  pub orders : Option (List ℕ)
  pub text : List ℕ
  pub lines : List Line
  pub scene_told : told scenario.scene ≡ Some bytes
  pub calls_told : told_of told scenario.timetable ≡ Some calls
  pub orders_told : told_of told scenario.commands ≡ Some orders
  pub snapshot_told : told snapshot ≡ Some text
  pub fine : past_refusal role.Snapshot bytes calls orders text deck ≡ None
  pub spelled : IsSnapshot (input_in bytes calls orders (names_of deck)).plant text lines
  pub of_run : lines_refusal (input_in bytes calls orders (names_of deck)) (handed_in deck) lines ≡ None

-- the terms of `resume`
abbrev pub resume_terms : Terms ScenarioAnd
resume_terms = record {
  answers = λ files deck told before now status. AnswersResume files.scenario files.other deck told before now status;
  accepted = λ files deck told. IsAcceptedResume files.scenario files.other deck told;
  done = is_done;
  alone = never;
}
