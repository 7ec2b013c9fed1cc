-- What is answered to a scene and one file more.
use Rattle.std.specs.Prelude.{◌≡◌, ◌≢◌, ℕ, List, Option, Some, None}
use Rattle.rail_base.specs.declared.refusals.Refusal.{Refusal}
use Rattle.rail_rules.specs.Numbers.{or_else}
use Rattle.rail_input.specs.Inputs.{plant_refusal}
use Rattle.rail_command_line.specs.declared.files.FileRole.{FileRole}
use Rattle.rail_command_line.specs.declared.files.FileRole.TheVariants as role
use Rattle.rail_forms.specs.declared.status.Status.{Status}
use Rattle.rail_forms.specs.declared.status.Status.TheVariants.{Refused}
use Rattle.rail_forms.specs.Answers.{Decides, IsAnswer, Told}
use Rattle.rail_forms.specs.Files.{too_large, too_many_bytes}
use Rattle.rail_command_line.specs.Forms.{SceneAnd}

-- what is answered to the two files, of which the second has this role, by a form that refuses this behind the scene, and adds
-- the whole or a part of what they stand for together
pub record AnswersTwoFiles (second_role : FileRole) (later : List ℕ → List ℕ → Option Refusal) (whole part : List ℕ → List ℕ → Type 0)
    (scene second : List ℕ) (told : Told) (status : Status) : Type 0 where
  -- where the bytes of both files are told
  pub both : (bytes others : List ℕ) → told scene ≡ Some bytes → told second ≡ Some others
      → IsAnswer (or_else (too_large role.Scene bytes) (or_else (too_large second_role others) (or_else (plant_refusal bytes) (later bytes others))))
      (whole bytes others) (part bytes others) status
  -- where those of the scene are told, whatever the other file is: the size of the scene's file, and behind that of the
  -- other file the refusals of the scene
  pub of_size : (bytes : List ℕ) → told scene ≡ Some bytes → Decides (too_large role.Scene bytes) status
  pub of_scene : (bytes : List ℕ) → told scene ≡ Some bytes → status ≢ Refused (too_many_bytes second_role)
      → Decides (or_else (too_large role.Scene bytes) (plant_refusal bytes)) status

-- the bytes of a scene and of a second file, which has this role, are told, and nothing is refused
pub record AreAccepted (second : FileRole) (later : List ℕ → List ℕ → Option Refusal) (files : SceneAnd) (told : Told) : Type 0 where
  pub bytes : List ℕ
  pub others : List ℕ
  pub scene_told : told files.scene ≡ Some bytes
  pub others_told : told files.other ≡ Some others
  pub fine : or_else (too_large role.Scene bytes) (or_else (too_large second others) (later bytes others)) ≡ None
