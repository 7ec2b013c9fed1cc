-- A scene after the edits of a file.
use Rattle.std.specs.Prelude.{ℕ, List, Option}
use Rattle.rail_base.specs.declared.refusals.Refusal.{Refusal}
use Rattle.rail_rules.specs.Numbers.{or_else}
use Rattle.rail_scene.specs.declared.scene.Scene.{Scene}
use Rattle.rail_scene.specs.SpelledScenes.{spelled_scene}
use Rattle.rail_compile.specs.Refusals.{compile_refusal}
use Rattle.rail_input.specs.Inputs.{plant_refusal}
use Rattle.rail_edit_file.specs.EditFiles.{edited_network, edits_refusal}

-- the scene with the network after the edits; its kinds and trains stay as they are
abbrev pub with_edits : Scene → List ℕ → Scene
with_edits scene edits = record scene { network = edited_network scene.network edits }

-- the scene that a scene file spells, after the edits of an edit file
abbrev pub edited_scene : List ℕ → List ℕ → Scene
edited_scene scene edits = with_edits (spelled_scene scene) edits

-- why the two files are refused: the scene and its plant first, then the edits, and then the plant after them
abbrev pub edited_scene_refusal : List ℕ → List ℕ → Option Refusal
edited_scene_refusal scene edits =
    or_else (plant_refusal scene)
    (or_else (edits_refusal (spelled_scene scene).network edits)
    (compile_refusal (edited_scene scene edits)))
