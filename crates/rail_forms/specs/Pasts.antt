-- What is answered to a scenario and a file of lines that were written before: a history or a snapshot.
use Rattle.std.specs.Prelude.{◌≡◌, ◌≢◌, ℕ, List, Option, Some}
use Rattle.rail_base.specs.declared.refusals.Refusal.{Refusal}
use Rattle.rail_input.specs.Inputs.{input_in, input_refusal, plant_refusal}
use Rattle.rail_policy.specs.Seats.{DeskSeat, handed_in, names_of}
use Rattle.rail_rules.specs.Numbers.{or_else}
use Rattle.rail_rules.specs.Orders.{Input}
use Rattle.rail_rules.specs.RunHistories.{Seat}
use Rattle.rail_command_line.specs.Forms.{Scenario}
use Rattle.rail_command_line.specs.declared.files.FileRole.{FileRole}
use Rattle.rail_command_line.specs.declared.files.FileRole.TheVariants as role
use Rattle.rail_forms.specs.declared.status.Status.{Status}
use Rattle.rail_forms.specs.declared.status.Status.TheVariants.{Refused}
use Rattle.rail_forms.specs.Answers.{Decides, Told}
use Rattle.rail_forms.specs.Files.{told_of, too_large, too_large_if_any, too_many_bytes}

-- why the files are refused that hold this, with this deck, whatever the lines are: for the size of each file in turn, of
-- which the last has this role, and then for what the others spell
abbrev pub past_refusal : FileRole → List ℕ → Option (List ℕ) → Option (List ℕ) → List ℕ → List DeskSeat → Option Refusal
past_refusal last scene timetable commands text deck =
    or_else (too_large role.Scene scene)
    (or_else (too_large_if_any role.Timetable timetable)
    (or_else (too_large_if_any role.Commands commands)
    (or_else (too_large last text)
    (input_refusal scene timetable commands (names_of deck)))))

-- what is answered to the lines in the file of this name, which has this role, for the scenario, with this deck: by what is
-- answered to the bytes of the file where so much is refused without it
pub record AnswersPast (last : FileRole) (Answers : Option Refusal → Input → List Seat → List ℕ → Type 0) (scenario : Scenario) (file : List ℕ)
    (deck : List DeskSeat) (told : Told) (status : Status) : Type 0 where
  -- where the bytes of all files are told
  pub all : (bytes : List ℕ) (calls orders : Option (List ℕ)) (text : List ℕ) → told scenario.scene ≡ Some bytes
      → told_of told scenario.timetable ≡ Some calls → told_of told scenario.commands ≡ Some orders → told file ≡ Some text
      → Answers (past_refusal last bytes calls orders text deck) (input_in bytes calls orders (names_of deck)) (handed_in deck) text
  -- where those of the scene are told, whatever the other files are: the size of the scene's file, and behind the sizes of
  -- the others the refusals of the scene
  pub of_size : (bytes : List ℕ) → told scenario.scene ≡ Some bytes → Decides (too_large role.Scene bytes) status
  pub of_scene : (bytes : List ℕ) → told scenario.scene ≡ Some bytes
      → status ≢ Refused (too_many_bytes role.Timetable) → status ≢ Refused (too_many_bytes role.Commands) → status ≢ Refused (too_many_bytes last)
      → Decides (or_else (too_large role.Scene bytes) (plant_refusal bytes)) status
