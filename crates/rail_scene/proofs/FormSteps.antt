-- One step of the loops over keys, tables and lists.
use Rattle.std.proofs.Common.{◌≡◌, ℕ, ◌+◌, ◌<◌, List, ◌++◌, map, length, drop, get_or, Some, None, sym, ap, subst, ◌∙◌}
use Rattle.std.proofs.lemmas.List.{at_drop_more}
use Rattle.toml.specs.Data.{Data}
use Rattle.toml.specs.View.{view}
use Rattle.toml.specs.declared.value.Value.{Value}
use Rattle.rail_base.specs.declared.refusals.Fault.{Fault}
use Rattle.rail_track.specs.declared.section.NetFault.{NetFault}
use Rattle.rail_base.specs.FirstRefusals.{first_failing}
use Rattle.rail_track.specs.NetFaults.{Answers}
use Rattle.rail_scene.specs.declared.keys.Key.{Key}
use Rattle.rail_scene.specs.declared.keys.ListPart.{ListPart}
use Rattle.rail_scene.specs.declared.versions.Version.{Version}
use Rattle.rail_scene.specs.Keys.{list_key, keys_of, part_of}
use Rattle.rail_scene.specs.Fields.{value_at, elements_at}
use Rattle.rail_scene.specs.Forms.{key_test, key_tests, form_tests}
use Rattle.rail_base.specs.Refusals.{AnswersFirst}
use Rattle.rail_scene.specs.Order.{located, list_forms, forms_of, fault_at, item_number}
use Rattle.rail_scene.proofs.Segments.{passed_on, stopped, scene_before}
use Rattle.rail_scene.proofs.Locating.{located_none, answers_located}
use Rattle.rail_scene.proofs.Views.{view_more}

pub keys_stop : (keys : List Key) (i : ℕ) (d : Key) (node : Data) (fault : NetFault) → i < length keys → Some fault ≡ first_failing (key_test (i + 1) (get_or keys i d) (value_at (get_or keys i d) node))
    → Some fault ≡ first_failing (key_tests (i + 1) (drop i keys) node)
keys_stop keys i d node fault within is =
    let key = get_or keys i d in
    sym (at_drop_more (λ ys. first_failing (key_tests (i + 1) ys node)) keys i d within ∙ stopped (key_test (i + 1) key (value_at key node)) (key_tests (i + 1 + 1) (drop (i + 1) keys) node) fault (sym is))

module _ (part : ListPart) (version : Version) (tables : List Value) (i : ℕ) (table : Value) (within : i < length tables) (is : table ≡ get_or tables i table) where
  pub form_stop : (fault : NetFault) → Answers (first_failing (form_tests (keys_of part version) (view table))) fault
      → AnswersFirst (first_failing (list_forms part version (i + 1) (map view (drop i tables)))) (fault_at (part_of part) (item_number (i + 1)) fault)
  form_stop fault answers =
      let here = located (part_of part) (i + 1) (form_tests (keys_of part version) (view table)) in
      let rest = list_forms part version (i + 1 + 1) (map view (drop (i + 1) tables)) in
      let more : first_failing (list_forms part version (i + 1) (map view (drop i tables))) ≡ first_failing (here ++ rest) = view_more (λ ys. first_failing (list_forms part version (i + 1) ys)) tables i table within is in
      let answered = answers_located (part_of part) (i + 1) (form_tests (keys_of part version) (view table)) fault answers in
      subst (λ first. AnswersFirst first (fault_at (part_of part) (item_number (i + 1)) fault)) (sym more) (scene_before here rest (fault_at (part_of part) (item_number (i + 1)) fault) answered)

  pub form_pass : first_failing (form_tests (keys_of part version) (view table)) ≡ None → first_failing (list_forms part version (i + 1) (map view (drop i tables))) ≡ first_failing (list_forms part version (i + 1 + 1) (map view (drop (i + 1) tables)))
  form_pass none =
      let here = located (part_of part) (i + 1) (form_tests (keys_of part version) (view table)) in
      let rest = list_forms part version (i + 1 + 1) (map view (drop (i + 1) tables)) in
      view_more (λ ys. first_failing (list_forms part version (i + 1) ys)) tables i table within is ∙ passed_on here rest (located_none (part_of part) (i + 1) (form_tests (keys_of part version) (view table)) none)

module _ (version : Version) (root : Data) (parts : List ListPart) (i : ℕ) (d : ListPart) (within : i < length parts) where
  abbrev part : ListPart
  part = get_or parts i d

  module _ (key : Key) (nodes : List Data) (has : key ≡ list_key part) (are : nodes ≡ elements_at key root) where
    stand : nodes ≡ elements_at (list_key part) root
    stand = are ∙ ap (λ k. elements_at k root) has

    more : first_failing (forms_of version root (drop i parts)) ≡ first_failing (list_forms part version 1 nodes ++ forms_of version root (drop (i + 1) parts))
    more =
        at_drop_more (λ ys. first_failing (forms_of version root ys)) parts i d within
        ∙ ap (λ ys. first_failing (list_forms part version 1 ys ++ forms_of version root (drop (i + 1) parts))) (sym stand)

    pub list_stop : (fault : Fault) → AnswersFirst (first_failing (list_forms part version 1 nodes)) fault → AnswersFirst (first_failing (forms_of version root (drop i parts))) fault
    list_stop fault answers = subst (λ first. AnswersFirst first fault) (sym more) (scene_before (list_forms part version 1 nodes) (forms_of version root (drop (i + 1) parts)) fault answers)

    pub list_pass : first_failing (list_forms part version 1 nodes) ≡ None → first_failing (forms_of version root (drop i parts)) ≡ first_failing (forms_of version root (drop (i + 1) parts))
    list_pass none = more ∙ passed_on (list_forms part version 1 nodes) (forms_of version root (drop (i + 1) parts)) none
