-- The form `migrate`: a text in the newest version of the format that is read as the scene.
use Rattle.std.specs.Prelude.{◌≡◌, ℕ, List, Option, Some, None}
use Rattle.rail_rules.specs.Numbers.{or_else}
use Rattle.rail_input.specs.Inputs.{input_in, input_refusal, plant_refusal}
use Rattle.rail_io.specs.Writes.{Adds, AddsPrefix}
use Rattle.rail_scene.specs.SpelledScenes.{spelled_scene}
use Rattle.rail_command_line.specs.declared.files.FileRole.TheVariants as role
use Rattle.rail_forms.specs.declared.status.Status.{Status}
use Rattle.rail_forms.specs.Answers.{IsAnswer, Told}
use Rattle.rail_forms.specs.Files.{too_large}
use Rattle.rail_forms.specs.SceneTexts.{WritesScene}
use Rattle.rail_forms.specs.Terms.{Terms, is_done, never}

-- two scene files are refused alike as the scene of a run, and spell the same runs, whatever its other files and deck are
pub record HaveSameRuns (text bytes : List ℕ) : Type 0 where
  pub refusal : (timetable commands : Option (List ℕ)) (deck : List (List ℕ))
      → input_refusal text timetable commands deck ≡ input_refusal bytes timetable commands deck
  pub input : (timetable commands : Option (List ℕ)) (deck : List (List ℕ))
      → input_in text timetable commands deck ≡ input_in bytes timetable commands deck

-- a text of the scene that the bytes spell was added, or so much of it, which has the same runs
pub record Migrates (bytes : List ℕ) (adds : List ℕ → Type 0) : Type 0 where
  pub writes : WritesScene (spelled_scene bytes) adds
  pub runs : HaveSameRuns writes.text bytes

-- the scene in the newest version, where the bytes of its file are told
abbrev pub AnswersMigrate : List ℕ → Told → Option (List ℕ) → Option (List ℕ) → Status → Type 0
AnswersMigrate scene told before now status = (bytes : List ℕ) → told scene ≡ Some bytes
    → IsAnswer (or_else (too_large role.Scene bytes) (plant_refusal bytes))
    (Migrates bytes (Adds before now)) (Migrates bytes (AddsPrefix before now)) status

-- the terms of `migrate`
abbrev pub migrate_terms : Terms (List ℕ)
migrate_terms = record {
  answers = λ scene deck told before now status. AnswersMigrate scene told before now status;
  accepted = λ scene deck told. (bytes : List ℕ) × (told scene ≡ Some bytes)
      × (or_else (too_large role.Scene bytes) (plant_refusal bytes) ≡ None);
  done = is_done;
  alone = never;
}
