-- The form `run`: the history of a scene.
use Rattle.std.specs.Prelude.{◌+◌, ◌≡◌, ◌≢◌, ◌⊎◌, ℕ, suc, ◌<◌, ◌≤◌, ◌^◌, Bool, false, IsTrue, List, [], ◌∷◌, ◌++◌, length, Option, Some}
use Rattle.rail_base.specs.declared.history.Note.{Note}
use Rattle.rail_base.specs.declared.history.Note.TheVariants.{Fresh}
use Rattle.rail_base.specs.declared.history.Cause.{Cause}
use Rattle.rail_base.specs.declared.history.What.TheVariants.{Admit, End, Hold}
use Rattle.rail_rules.specs.LineCounts.{holds_train, lines_that, taken_over}
use Rattle.rail_io.specs.Writes.{Adds, AddsPrefix}
use Rattle.rail_rules.specs.Accepted.{is_accepted_input}
use Rattle.rail_rules.specs.Causes.{cause, is_ready, is_repairable, last_hold, place}
use Rattle.rail_rules.specs.Fronts.{Front, Line, instant, kept, lines_beside_holds, places}
use Rattle.rail_rules.specs.Lawful.{is_out, remaining}
use Rattle.rail_rules.specs.Places.{completes}
use Rattle.rail_rules.specs.Plant.{bound, moves_of, trains}
use Rattle.rail_rules.specs.RunHistories.{Seat, is_chosen, is_run, is_run_history}
use Rattle.rail_rules.specs.Texts.{text}
use Rattle.rail_rules.specs.Apart.{NeverOverlap}
use Rattle.rail_rules.specs.Orders.{Input, is_cancelled, is_closed, is_stopped, told}
use Rattle.rail_laws_list.specs.Locked.{AreLocked}
use Rattle.rail_laws_end.specs.Barred.{LeadsToBarred, Remains}
use Rattle.rail_laws_end.specs.Forks.{is_built_in_throughout}
use Rattle.rail_policy.specs.Seats.{DeskSeat}
use Rattle.rail_forms.specs.declared.status.Status.{Status}
use Rattle.rail_forms.specs.Answers.{Told}
use Rattle.rail_command_line.specs.Forms.{Scenario}
use Rattle.rail_forms.specs.Scenarios.{AnswersScenario, IsAcceptedScenario, nothing_else}
use Rattle.rail_forms.specs.Terms.{Terms, is_done, never}

-- the next move of the train waits for a cause that is true and that its last hold line states
pub record WaitsForStated (input : Input) (front : Front) (t : ℕ) : Type 0 where
  pub why : Cause
  pub true_cause : cause input front t ≡ Some why
  pub stated : last_hold front t (suc (place front t)) ≡ Some why

-- what a run keeps at each of its lines: no overlap; a list by which every train inside comes to its exit; no deadlock; true
-- causes on hold lines, and of each wait when time goes on; the policy obeyed; repair before a fresh list; no more lines than
-- the bound
pub record IsSafe (input : Input) (seats : List Seat) (front : Front) : Type 0 where
  pub apart : NeverOverlap input.plant front
  pub complete : (later before : Front) → front ≡ later ++ before
      → IsTrue (completes (moves_of input.plant) (places input.plant before) (kept input.plant before))
  -- no deadlock: a set of trains inside, each of which claims for its next move a section that one of the set holds, is empty
  pub unlocked : (later before : Front) → front ≡ later ++ before
      → (among : ℕ → Bool) → AreLocked (moves_of input.plant) (places input.plant before) among → (t : ℕ) → among t ≡ false
  pub causes : (later before : Front) (line : Line) (t m : ℕ) (why : Cause) → front ≡ later ++ line ∷ before
      → line.entry.what ≡ Hold t m why → cause input before t ≡ Some why
  pub obeyed : (later before : Front) (line : Line) (t m : ℕ) (note : Note) → front ≡ later ++ line ∷ before
      → line.entry.what ≡ Admit t m note → IsTrue (is_chosen input seats before t)
  pub waits : (later before : Front) (line : Line) (t : ℕ) → front ≡ later ++ line ∷ before
      → (line.entry.at ≢ instant before) ⊎ (line.entry.what ≡ End)
      → t < trains input.plant → IsTrue (is_ready input before t) → WaitsForStated input before t
  pub repaired : (later before : Front) (line : Line) (t m : ℕ) → front ≡ later ++ line ∷ before
      → line.entry.what ≡ Admit t m Fresh → is_repairable input before t ≡ false
  pub few : lines_beside_holds front ≤ bound input.plant (length input.commands)
  pub few_holds : (t : ℕ) → lines_that (holds_train t) front ≤ bound input.plant (length input.commands)

-- no section of the plant is closed and no train is stopped, by the orders that the front tells
pub record NothingIsBarred (input : Input) (front : Front) : Type 0 where
  pub opened : (x : ℕ) → x < length input.plant.tables.sections → is_closed x (told input.commands front) ≡ false
  pub going : (t : ℕ) → t < trains input.plant → is_stopped t (told input.commands front) ≡ false

-- what holds at the end of a run
pub record IsFinished (input : Input) (front : Front) : Type 0 where
  -- the last line is the end line
  pub last : Line
  pub before : Front
  pub is_last : front ≡ last ∷ before
  pub is_end : last.entry.what ≡ End
  -- it names, by number, exactly the trains that are neither out nor cancelled
  pub names : last.trains ≡ remaining input front
  -- each train that remains waits, step by step, in at most as many steps as there are trains, for one that a stop or a
  -- closure in force bars
  pub barred : (t : ℕ) → Remains input front t → LeadsToBarred input front t (trains input.plant)
  -- where nothing is barred it names nobody, and each train is out or cancelled
  pub nobody : NothingIsBarred input front → last.trains ≡ []
  pub left : NothingIsBarred input front → (t : ℕ) → t < trains input.plant
      → IsTrue (is_out front t) ⊎ IsTrue (is_cancelled t (told input.commands front))
  -- where moreover no train is cancelled there are exactly as many lines as the bound says, hold lines aside, less one for
  -- each section of an overlap that was taken over
  pub exact : NothingIsBarred input front
      → ((t : ℕ) → t < trains input.plant → is_cancelled t (told input.commands front) ≡ false)
      → lines_beside_holds front + taken_over input.plant front ≡ bound input.plant (length input.commands)
  -- so without commands every train is out, and there are exactly so many lines
  pub all_left : input.commands ≡ [] → (t : ℕ) → t < trains input.plant → IsTrue (is_out front t)
  pub all_lines : input.commands ≡ [] → lines_beside_holds front + taken_over input.plant front ≡ bound input.plant 0

-- every time of the front is below 2^50 tenths of a second
abbrev pub IsBeforeLimit : Front → Type 0
IsBeforeLimit front = (later before : Front) (line : Line) → front ≡ later ++ line ∷ before → line.entry.at < 2 ^ 50

-- no admission of the front has a fresh list
abbrev pub HasNoFreshList : Front → Type 0
HasNoFreshList front = (later before : Front) (line : Line) (t m : ℕ) → front ≡ later ++ line ∷ before → line.entry.what ≢ Admit t m Fresh

-- where a built-in kind was in force at each of its admissions, and none of them has a fresh list, the front is the one
-- run history of the input
abbrev pub IsTheOnlyOne : Input → List Seat → Front → Type 0
IsTheOnlyOne input seats front = IsTrue (is_built_in_throughout input seats front) → HasNoFreshList front
    → (other : Front) → IsTrue (is_run_history input seats other) → other ≡ front

-- the front is a run history of the input with the boxes as they were handed in, in which every event line is the due one
pub record IsRun (input : Input) (seats : List Seat) (front : Front) : Type 0 where
  pub history : IsTrue (is_run_history input seats front)
  pub safe : IsSafe input seats front
  pub finished : IsFinished input front

-- it is the run of an input that may be run: one within the limits, so that the laws on all such inputs speak of it
pub record IsRunWithin (input : Input) (seats : List Seat) (front : Front) : Type 0 where
  pub accepted : IsTrue (is_accepted_input input)
  pub is_run : IsRun input seats front
  pub timely : IsBeforeLimit front
  pub only : IsTheOnlyOne input seats front

-- the front is a first part of a run of the input
pub record IsRunInPart (input : Input) (seats : List Seat) (front : Front) : Type 0 where
  pub accepted : IsTrue (is_accepted_input input)
  pub run : IsTrue (is_run input seats front)
  pub safe : IsSafe input seats front
  pub timely : IsBeforeLimit front

-- the bytes added are the text of a run history of the input
pub record RunsInput (input : Input) (seats : List Seat) (before now : Option (List ℕ)) : Type 0 where
  pub front : Front
  pub run : IsRunWithin input seats front
  pub adds : Adds before now (text input.plant front)

-- the bytes added are a first part of the text of a run front of the input
pub record RunsInputInPart (input : Input) (seats : List Seat) (before now : Option (List ℕ)) : Type 0 where
  pub front : Front
  pub run : IsRunInPart input seats front
  pub adds : AddsPrefix before now (text input.plant front)

-- the history of the scenario, with this deck
abbrev pub AnswersRun : Scenario → List DeskSeat → Told → Option (List ℕ) → Option (List ℕ) → Status → Type 0
AnswersRun scenario deck told before now status = AnswersScenario nothing_else
    (λ input seats. RunsInput input seats before now) (λ input seats. RunsInputInPart input seats before now) scenario deck told status

-- the terms of `run`
abbrev pub run_terms : Terms Scenario
run_terms = record {
  answers = λ scenario deck told before now status. AnswersRun scenario deck told before now status;
  accepted = λ scenario deck told. IsAcceptedScenario nothing_else deck told scenario;
  done = is_done;
  alone = never;
}
