-- The order in which a scene is refused: one list of tests, and the first that fails gives the refusal.
use Rattle.std.specs.Prelude.{ℕ, ◌+◌, min, Bool, not, List, [], ◌∷◌, ◌++◌, Option, is_some}
use Rattle.toml.specs.Data.{Data}
use Rattle.rail_base.specs.declared.refusals.Fault.{Fault}
use Rattle.rail_base.specs.declared.refusals.Fault.TheVariants as fault
use Rattle.rail_base.specs.declared.refusals.Part.{Part}
use Rattle.rail_base.specs.declared.refusals.Part.TheVariants.{Root, Bytes}
use Rattle.rail_base.specs.declared.refusals.Reason.TheVariants.{NotToml}
use Rattle.rail_base.specs.declared.refusals.Refusal.{Refusal}
use Rattle.rail_track.specs.declared.section.NetFault.{NetFault}
use Rattle.rail_track.specs.declared.section.NetFault.TheVariants.{Refused, OutOfMemory}
use Rattle.rail_base.specs.FirstRefusals.{Test, first_failing}
use Rattle.rail_scene.specs.SceneItems.{SceneItems}
use Rattle.rail_scene.specs.declared.keys.ListPart.{ListPart}
use Rattle.rail_scene.specs.declared.versions.Version.{Version}
use Rattle.rail_scene.specs.Keys.{list_parts, list_key, root_keys, keys_of, part_of}
use Rattle.rail_scene.specs.Fields.{elements_at, version_of}
use Rattle.rail_scene.specs.Forms.{form_tests}
use Rattle.rail_scene.specs.Values.{value_tests}
use Rattle.rail_scene.specs.SceneItems.{no_items, item_tests, with_items}
use Rattle.rail_scene.specs.SpelledScenes.{document, root_of}

-- a refusal tells the number of an item up to the greatest that it has room for
abbrev pub item_number : ℕ → ℕ
item_number n = min n 4_294_967_295

-- one test of a table at its part and number; want of memory is no refusal of a file
abbrev pub located_as : Part → ℕ → Bool → NetFault → List (Test Refusal)
located_as part n fails (Refused reason step) =
    record { answer = record { reason = reason; part = part; item = item_number n; step = step }; fails = fails } ∷ []
located_as part n fails OutOfMemory = []

-- the tests of a table at its part and number
abbrev pub located : Part → ℕ → List (Test NetFault) → List (Test Refusal)
located part n [] = []
located part n (t ∷ ts) = located_as part n t.fails t.answer ++ located part n ts

-- the fault of a table at its part and number, which is counted already
abbrev pub fault_at : Part → ℕ → NetFault → Fault
fault_at part item (Refused reason step) = fault.Refused record { reason = reason; part = part; item = item; step = step }
fault_at part item OutOfMemory = fault.OutOfMemory

-- the forms of the tables of a list, which are numbered from n
abbrev pub list_forms : ListPart → Version → ℕ → List Data → List (Test Refusal)
list_forms part version n [] = []
list_forms part version n (node ∷ nodes) =
    located (part_of part) n (form_tests (keys_of part version) node) ++ list_forms part version (n + 1) nodes

-- the forms of the lists in turn
abbrev pub forms_of : Version → Data → List ListPart → List (Test Refusal)
forms_of version root [] = []
forms_of version root (part ∷ parts) = list_forms part version 1 (elements_at (list_key part) root) ++ forms_of version root parts

-- the forms of all tables by the keys of a version: the root, then its lists
unfoldable pub scene_forms : Version → Data → List (Test Refusal)
scene_forms version root = located Root 0 (form_tests (root_keys version) root) ++ forms_of version root list_parts

-- the values of the tables of a list, numbered from n, each beside the items before it
abbrev pub list_values : ListPart → Version → ℕ → SceneItems → List Data → List (Test Refusal)
list_values part version n items [] = []
list_values part version n items (node ∷ nodes) =
    located (part_of part) n (item_tests part version items node)
    ++ list_values part version (n + 1) (with_items part version (node ∷ []) items) nodes

-- the values of the lists in turn
abbrev pub values_of : Version → Data → SceneItems → List ListPart → List (Test Refusal)
values_of version root items [] = []
values_of version root items (part ∷ parts) =
    list_values part version 1 items (elements_at (list_key part) root)
    ++ values_of version root (with_items part version (elements_at (list_key part) root) items) parts

-- the items with those of the lists of these parts
abbrev pub with_lists : Version → Data → List ListPart → SceneItems → SceneItems
with_lists version root [] items = items
with_lists version root (part ∷ parts) items = with_lists version root parts (with_items part version (elements_at (list_key part) root) items)

-- the values of all lists of a root by the keys of a version
unfoldable pub lists_values : Version → Data → List (Test Refusal)
lists_values version root = values_of version root no_items list_parts

-- the items that all lists of a root fill, by the version of the file
unfoldable pub listed_items : Version → Data → SceneItems
listed_items version root = with_lists version root list_parts no_items

-- the values of all tables by the keys of a version: the root, then its lists
unfoldable pub scene_values : Version → Data → List (Test Refusal)
scene_values version root = located Root 0 (value_tests 1 (root_keys version) root) ++ lists_values version root

-- the bytes are TOML
abbrev pub toml_test : List ℕ → Test Refusal
toml_test bytes = record { answer = record { reason = NotToml; part = Bytes; item = 0; step = 0 }; fails = not (is_some (document bytes)) }

-- the tests of the tables of a root, by the version that it names: all forms, then all values
abbrev pub root_tests : Data → List (Test Refusal)
root_tests root = scene_forms (version_of root) root ++ scene_values (version_of root) root

-- the tests of a scene file: that it is TOML, then its tables
abbrev pub scene_tests : List ℕ → List (Test Refusal)
scene_tests bytes = toml_test bytes ∷ root_tests (root_of bytes)

-- why a scene file is refused
unfoldable pub scene_refusal : List ℕ → Option Refusal
scene_refusal bytes = first_failing (scene_tests bytes)
