-- The form `edit`: a text that is read as the scene after the edits.
use Rattle.std.specs.Prelude.{ℕ, List, Option}
use Rattle.rail_base.specs.declared.refusals.Refusal.{Refusal}
use Rattle.rail_rules.specs.Numbers.{or_else}
use Rattle.rail_io.specs.Writes.{Adds, AddsPrefix}
use Rattle.rail_scene.specs.SpelledScenes.{spelled_scene}
use Rattle.rail_compile.specs.Refusals.{compile_refusal}
use Rattle.rail_edit_file.specs.EditFiles.{edits_refusal}
use Rattle.rail_edit_file.specs.EditedScenes.{edited_scene, edited_scene_refusal}
use Rattle.rail_command_line.specs.declared.files.FileRole.TheVariants as role
use Rattle.rail_forms.specs.declared.status.Status.{Status}
use Rattle.rail_forms.specs.Answers.{Told}
use Rattle.rail_forms.specs.SceneTexts.{WritesScene}
use Rattle.rail_forms.specs.TwoFiles.{AnswersTwoFiles, AreAccepted}
use Rattle.rail_command_line.specs.Forms.{SceneAnd}
use Rattle.rail_forms.specs.Terms.{Terms, is_done, never}

-- why the edits of a scene are refused: themselves, and then the plant after them
abbrev pub later_refusal : List ℕ → List ℕ → Option Refusal
later_refusal scene edits = or_else (edits_refusal (spelled_scene scene).network edits) (compile_refusal (edited_scene scene edits))

-- the scene after the edits
abbrev pub AnswersEdit : List ℕ → List ℕ → Told → Option (List ℕ) → Option (List ℕ) → Status → Type 0
AnswersEdit scene edits told before now status = AnswersTwoFiles role.Edits later_refusal
    (λ bytes lines. WritesScene (edited_scene bytes lines) (Adds before now))
    (λ bytes lines. WritesScene (edited_scene bytes lines) (AddsPrefix before now)) scene edits told status

-- the terms of `edit`
abbrev pub edit_terms : Terms SceneAnd
edit_terms = record {
  answers = λ files deck told before now status. AnswersEdit files.scene files.other told before now status;
  accepted = λ files deck told. AreAccepted role.Edits edited_scene_refusal files told;
  done = is_done;
  alone = never;
}
