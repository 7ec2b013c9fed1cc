-- No refusal of a scene is one of a file for its size.
use Rattle.std.proofs.Common.{◌≡◌, ℕ, ◌+◌, Bool, false, List, [], ◌∷◌, ◌++◌, Some, refl}
use Rattle.toml.specs.Data.{Data}
use Rattle.rail_base.specs.FirstRefusals.{Test}
use Rattle.rail_base.specs.Refusals.{is_file}
use Rattle.rail_base.specs.declared.refusals.Part.{Part}
use Rattle.rail_base.specs.declared.refusals.Part.TheVariants.{Root}
use Rattle.rail_base.specs.declared.refusals.Refusal.{Refusal}
use Rattle.rail_base.proofs.CallerLemmas.{AreOfBytes, first_of_bytes, of_both}
use Rattle.rail_track.specs.declared.section.NetFault.{NetFault}
use Rattle.rail_track.specs.declared.section.NetFault.TheVariants.{Refused, OutOfMemory}
use Rattle.rail_scene.specs.declared.keys.ListPart.{ListPart}
use Rattle.rail_scene.specs.declared.keys.ListPart.TheVariants.{Section, Portal, Signal, Board, Turn, Route, Kind, Train}
use Rattle.rail_scene.specs.declared.versions.Version.{Version}
use Rattle.rail_scene.specs.Fields.{elements_at, version_of}
use Rattle.rail_scene.specs.Forms.{form_tests}
use Rattle.rail_scene.specs.Values.{value_tests}
use Rattle.rail_scene.specs.Keys.{keys_of, list_key, list_parts, part_of, root_keys}
use Rattle.rail_scene.specs.Order.{forms_of, list_forms, list_values, lists_values, located, located_as, scene_forms, scene_refusal, scene_tests, scene_values, values_of}
use Rattle.rail_scene.specs.SceneItems.{SceneItems, item_tests, no_items, with_items}
use Rattle.rail_scene.specs.SpelledScenes.{root_of}

-- the tests of a table
of_table : (part : Part) → is_file part ≡ false → (n : ℕ) (ts : List (Test NetFault)) → AreOfBytes (located part n ts)
of_table part none n [] = tt
of_table part none n (t ∷ ts) = of_both (located_as part n t.fails t.answer) (located part n ts) (one t.fails t.answer) (of_table part none n ts)
  where
    one : (fails : Bool) (answer : NetFault) → AreOfBytes (located_as part n fails answer)
    one fails (Refused reason step) = (none, tt)
    one fails OutOfMemory = tt

no_file : (part : ListPart) → is_file (part_of part) ≡ false
no_file Section = refl
no_file Portal = refl
no_file Signal = refl
no_file Board = refl
no_file Turn = refl
no_file Route = refl
no_file Kind = refl
no_file Train = refl

-- the forms and the values of the tables of a list, and of the lists in turn
of_forms : (part : ListPart) (version : Version) (n : ℕ) (nodes : List Data) → AreOfBytes (list_forms part version n nodes)
of_forms part version n [] = tt
of_forms part version n (node ∷ nodes) = of_both (located (part_of part) n (form_tests (keys_of part version) node)) (list_forms part version (n + 1) nodes)
    (of_table (part_of part) (no_file part) n (form_tests (keys_of part version) node)) (of_forms part version (n + 1) nodes)

of_all_forms : (version : Version) (root : Data) (parts : List ListPart) → AreOfBytes (forms_of version root parts)
of_all_forms version root [] = tt
of_all_forms version root (part ∷ parts) = of_both (list_forms part version 1 (elements_at (list_key part) root)) (forms_of version root parts)
    (of_forms part version 1 (elements_at (list_key part) root)) (of_all_forms version root parts)

of_values : (part : ListPart) (version : Version) (n : ℕ) (items : SceneItems) (nodes : List Data) → AreOfBytes (list_values part version n items nodes)
of_values part version n items [] = tt
of_values part version n items (node ∷ nodes) = of_both (located (part_of part) n (item_tests part version items node)) (list_values part version (n + 1) (with_items part version (node ∷ []) items) nodes)
    (of_table (part_of part) (no_file part) n (item_tests part version items node)) (of_values part version (n + 1) (with_items part version (node ∷ []) items) nodes)

of_all_values : (version : Version) (root : Data) (items : SceneItems) (parts : List ListPart) → AreOfBytes (values_of version root items parts)
of_all_values version root items [] = tt
of_all_values version root items (part ∷ parts) = of_both (list_values part version 1 items (elements_at (list_key part) root)) (values_of version root (with_items part version (elements_at (list_key part) root) items) parts)
    (of_values part version 1 items (elements_at (list_key part) root)) (of_all_values version root (with_items part version (elements_at (list_key part) root) items) parts)

-- the tests of the tables of a scene
of_root : (version : Version) (root : Data) → AreOfBytes (scene_forms version root ++ scene_values version root)
unfolding scene_forms scene_values lists_values
of_root version root =
    let keys = root_keys version in
    of_both (scene_forms version root) (scene_values version root)
    (of_both (located Root 0 (form_tests keys root)) (forms_of version root list_parts) (of_table Root refl 0 (form_tests keys root)) (of_all_forms version root list_parts))
    (of_both (located Root 0 (value_tests 1 keys root)) (values_of version root no_items list_parts) (of_table Root refl 0 (value_tests 1 keys root)) (of_all_values version root no_items list_parts))

-- the tests of a scene
of_scene : (bytes : List ℕ) → AreOfBytes (scene_tests bytes)
of_scene bytes = let root : Data = root_of bytes in (refl, of_root (version_of root) root)

pub scene_of_bytes : (bytes : List ℕ) (refusal : Refusal) → scene_refusal bytes ≡ Some refusal → is_file refusal.part ≡ false
unfolding scene_refusal
scene_of_bytes bytes refusal is = first_of_bytes (scene_tests bytes) refusal (of_scene bytes) is
