-- The form `scene`: a text that is read as the made-up scene of a number.
use Rattle.std.specs.Prelude.{◌≡◌, ℕ, List, Option, None}
use Rattle.rail_gen.specs.MadeScenes.{made_scene}
use Rattle.rail_io.specs.Writes.{Adds, AddsPrefix}
use Rattle.rail_scene.specs.Fields.{version_of}
use Rattle.rail_scene.specs.Order.{scene_refusal}
use Rattle.rail_scene.specs.SpelledScenes.{root_of, spelled_scene}
use Rattle.rail_scene.specs.Versions.{newest}
use Rattle.rail_scene.specs.declared.scene.Scene.{Scene}
use Rattle.rail_scene_text.specs.Tables.{IsSceneText}
use Rattle.rail_forms.specs.declared.status.Status.{Status}
use Rattle.rail_forms.specs.Answers.{IsAnswer}
use Rattle.rail_forms.specs.Terms.{Terms, is_done, never}

-- the text of this scene was added, or so much of it: it is accepted as a scene file of the newest version, and read as the
-- same scene
pub record WritesScene (scene : Scene) (adds : List ℕ → Type 0) : Type 0 where
  pub text : List ℕ
  pub laid_out : IsSceneText scene text
  pub accepted : scene_refusal text ≡ None
  pub same : spelled_scene text ≡ scene
  pub version : version_of (root_of text) ≡ newest
  pub added : adds text

-- the made-up scene of the number
abbrev pub AnswersScene : ℕ → Option (List ℕ) → Option (List ℕ) → Status → Type 0
AnswersScene number before now status =
    IsAnswer None (WritesScene (made_scene number) (Adds before now)) (WritesScene (made_scene number) (AddsPrefix before now)) status

-- the terms of `scene`
abbrev pub scene_terms : Terms ℕ
scene_terms = record {
  answers = λ number deck told before now status. AnswersScene number before now status;
  accepted = λ number deck told. Unit {0};
  done = is_done;
  alone = never;
}
