-- What is answered to a scenario: a scene with a timetable and commands.
use Rattle.std.specs.Prelude.{◌≡◌, ◌≢◌, ℕ, Bool, true, false, List, ◌++◌, Option, Some, None}
use Rattle.rail_base.specs.declared.refusals.Refusal.{Refusal}
use Rattle.rail_input.specs.Inputs.{input_in, input_refusal, plant_refusal}
use Rattle.rail_policy.specs.Seats.{DeskSeat, handed_in, names_of}
use Rattle.rail_rules.specs.Numbers.{or_else}
use Rattle.rail_rules.specs.Orders.{Input}
use Rattle.rail_rules.specs.RunHistories.{Seat}
use Rattle.rail_io.specs.declared.shelf.Shelf.{Ghosts}
use Rattle.rail_command_line.specs.Files.{File}
use Rattle.rail_command_line.specs.Forms.{Scenario, scenario_files}
use Rattle.rail_command_line.specs.declared.files.FileRole.TheVariants as role
use Rattle.rail_forms.specs.declared.status.Status.{Status}
use Rattle.rail_forms.specs.declared.status.Status.TheVariants.{OutOfMemory, ReadFault, Refused}
use Rattle.rail_forms.specs.Answers.{Decides, IsAnswer, Told}
use Rattle.rail_forms.specs.declared.scenario.ScenarioFiles.{ScenarioFiles}
use Rattle.rail_forms.specs.Files.{content_of, told_of, too_large, too_large_if_any, too_many_bytes}
use Rattle.rail_forms.specs.Promises.{ReadsFiles}

-- a form that refuses nothing else than the input of a run
abbrev pub nothing_else : Option Refusal → Input → Option Refusal
nothing_else first input = first

-- why a scenario is refused whose files hold this, with this deck: for the size of each file in turn, for what they
-- spell, and for what else the form refuses
abbrev pub scenario_refusal : (Option Refusal → Input → Option Refusal) → List ℕ → Option (List ℕ) → Option (List ℕ) → List DeskSeat → Option Refusal
scenario_refusal refusal scene timetable commands deck =
    or_else (too_large role.Scene scene)
    (or_else (too_large_if_any role.Timetable timetable)
    (or_else (too_large_if_any role.Commands commands)
    (refusal (input_refusal scene timetable commands (names_of deck)) (input_in scene timetable commands (names_of deck)))))

-- what is answered to the scenario by a form that refuses this, and adds the whole or a part of what tells of its run
pub record AnswersScenario (refusal : Option Refusal → Input → Option Refusal) (whole part : Input → List Seat → Type 0)
    (scenario : Scenario) (deck : List DeskSeat) (told : Told) (status : Status) : Type 0 where
  -- where the bytes of all files are told
  pub all : (bytes : List ℕ) (calls orders : Option (List ℕ)) → told scenario.scene ≡ Some bytes
      → told_of told scenario.timetable ≡ Some calls → told_of told scenario.commands ≡ Some orders
      → IsAnswer (scenario_refusal refusal bytes calls orders deck)
      (whole (input_in bytes calls orders (names_of deck)) (handed_in deck))
      (part (input_in bytes calls orders (names_of deck)) (handed_in deck))
      status
  -- where those of the scene are told, whatever the other files are: the size of the scene's file, and behind the sizes of
  -- the others the refusals of the scene
  pub of_size : (bytes : List ℕ) → told scenario.scene ≡ Some bytes → Decides (too_large role.Scene bytes) status
  pub of_scene : (bytes : List ℕ) → told scenario.scene ≡ Some bytes
      → status ≢ Refused (too_many_bytes role.Timetable) → status ≢ Refused (too_many_bytes role.Commands)
      → Decides (or_else (too_large role.Scene bytes) (plant_refusal bytes)) status

-- the bytes of a scenario's files are told, and nothing is refused
pub record IsAcceptedScenario (refusal : Option Refusal → Input → Option Refusal) (deck : List DeskSeat) (told : Told)
    (scenario : Scenario) : Type 0 where
  pub bytes : List ℕ
  pub calls : Option (List ℕ)
  pub orders : Option (List ℕ)
  pub scene_told : told scenario.scene ≡ Some bytes
  pub calls_told : told_of told scenario.timetable ≡ Some calls
  pub orders_told : told_of told scenario.commands ≡ Some orders
  pub fine : scenario_refusal refusal bytes calls orders deck ≡ None

-- why what was read is refused, for a deck of policies of these names
abbrev pub refusal_in : ScenarioFiles → List (List ℕ) → Option Refusal
refusal_in files deck = input_refusal files.scene.items (content_of files.timetable) (content_of files.commands) deck

-- what it spells
abbrev pub spelled_in : ScenarioFiles → List (List ℕ) → Input
spelled_in files deck = input_in files.scene.items (content_of files.timetable) (content_of files.commands) deck

-- what was read of the files of the scenario is what they hold, where that is told, and fits
pub record IsHeld (told : Told) (scenario : Scenario) (files : ScenarioFiles) : Type 0 where
  pub scene : (bytes : List ℕ) → told scenario.scene ≡ Some bytes → files.scene.items ≡ bytes
  pub scene_fits : too_large role.Scene files.scene.items ≡ None
  pub timetable : (content : Option (List ℕ)) → told_of told scenario.timetable ≡ Some content → content_of files.timetable ≡ content
  pub timetable_fits : too_large_if_any role.Timetable (content_of files.timetable) ≡ None
  pub commands : (content : Option (List ℕ)) → told_of told scenario.commands ≡ Some content → content_of files.commands ≡ content
  pub commands_fits : too_large_if_any role.Commands (content_of files.commands) ≡ None

-- a form that refuses its files for their size alone
abbrev pub sizes_alone : Option Refusal → Input → Option Refusal
sizes_alone first input = None

-- with this status a file was not read
abbrev pub is_unread : Status → Bool
is_unread (Refused refusal) = true
is_unread ReadFault = true
is_unread OutOfMemory = true
is_unread status = false

-- a file of the scenario was not read: the answer is that of a form which refuses sizes alone and adds nothing, and what is
-- promised of the files is kept, whatever files are named behind them
pub record IsUnread {S : Type 0} (shelf : Ghosts S) (scenario : Scenario) (before now : S) (status : Status) : Type 0 where
  pub answer : (deck : List DeskSeat) → AnswersScenario sizes_alone (λ input seats. ⊥) (λ input seats. ⊥) scenario deck (shelf.told before) status
  pub reads : (later : List File) → ReadsFiles shelf (scenario_files scenario ++ later) before now status
  pub unread : is_unread status ≡ true
