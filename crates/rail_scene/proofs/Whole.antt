-- The tests of a scene file in their segments: TOML, forms, and the values of the root and of the lists.
use Rattle.std.proofs.Common.{◌≡◌, ℕ, List, [], ◌∷◌, ◌++◌, None, Result, Ok, Err}
use Rattle.std.specs.Result.{OnOk, IfErr}
use Rattle.toml.specs.Data.{Data}
use Rattle.rail_base.specs.declared.refusals.Fault.{Fault}
use Rattle.rail_base.specs.declared.refusals.Part.TheVariants.{Root}
use Rattle.rail_base.specs.declared.refusals.Refusal.{Refusal}
use Rattle.rail_track.specs.declared.section.NetFault.{NetFault}
use Rattle.rail_base.specs.FirstRefusals.{Test, first_failing}
use Rattle.rail_track.specs.NetFaults.{Answers}
use Rattle.rail_scene.specs.declared.versions.Version.{Version}
use Rattle.rail_scene.specs.Fields.{version_of}
use Rattle.rail_scene.specs.Keys.{root_keys}
use Rattle.rail_scene.specs.Values.{value_tests}
use Rattle.rail_scene.specs.SpelledScenes.{root_of}
use Rattle.rail_base.specs.Refusals.{AnswersFirst}
use Rattle.rail_scene.specs.Order.{located, fault_at, lists_values, scene_values, scene_forms, toml_test, scene_refusal}
use Rattle.rail_scene.proofs.Segments.{both_passed, scene_before, scene_after}
use Rattle.rail_scene.proofs.Locating.{located_none, answers_located}

module _ (version : Version) (root : Data) where
  abbrev own : List (Test NetFault)
  own = value_tests 1 (root_keys version) root

  abbrev lists : List (Test Refusal)
  lists = lists_values version root

  pub values_none : first_failing own ≡ None → first_failing lists ≡ None → first_failing (scene_values version root) ≡ None
  unfolding scene_values
  values_none a b = both_passed (located Root 0 own) lists (located_none Root 0 own a) b

  pub at_root : (fault : NetFault) → Answers (first_failing own) fault → AnswersFirst (first_failing (scene_values version root)) (fault_at Root 0 fault)
  unfolding scene_values
  at_root fault answers = scene_before (located Root 0 own) lists (fault_at Root 0 fault) (answers_located Root 0 own fault answers)

  pub at_lists : first_failing own ≡ None → (fault : Fault) → AnswersFirst (first_failing lists) fault → AnswersFirst (first_failing (scene_values version root)) fault
  unfolding scene_values
  at_lists none fault answers = scene_after (located Root 0 own) lists fault (located_none Root 0 own none) answers

module _ (bytes : List ℕ) where
  abbrev version : Version
  version = version_of (root_of bytes)

  abbrev first : List (Test Refusal)
  first = toml_test bytes ∷ []

  abbrev forms : List (Test Refusal)
  forms = scene_forms version (root_of bytes)

  abbrev values : List (Test Refusal)
  values = scene_values version (root_of bytes)

  pub none_refused : first_failing first ≡ None → first_failing forms ≡ None → first_failing values ≡ None → scene_refusal bytes ≡ None
  unfolding scene_refusal
  none_refused a b c = both_passed (first ++ forms) values (both_passed first forms a b) c

  pub at_toml : (fault : Fault) → AnswersFirst (first_failing first) fault → AnswersFirst (scene_refusal bytes) fault
  unfolding scene_refusal
  at_toml fault answers = scene_before (first ++ forms) values fault (scene_before first forms fault answers)

  pub at_forms : first_failing first ≡ None → (fault : Fault) → AnswersFirst (first_failing forms) fault → AnswersFirst (scene_refusal bytes) fault
  unfolding scene_refusal
  at_forms a fault answers = scene_before (first ++ forms) values fault (scene_after first forms fault a answers)

  pub at_values : first_failing first ≡ None → first_failing forms ≡ None → (fault : Fault) → AnswersFirst (first_failing values) fault → AnswersFirst (scene_refusal bytes) fault
  unfolding scene_refusal
  at_values a b fault answers = scene_after (first ++ forms) values fault (both_passed first forms a b) answers

  pub read_result : {T : Type 0} (r : Result T Fault) → first_failing first ≡ None → first_failing forms ≡ None
      → OnOk r (first_failing values ≡ None) → IfErr r (AnswersFirst (first_failing values)) → OnOk r (scene_refusal bytes ≡ None) × IfErr r (AnswersFirst (scene_refusal bytes))
  read_result (Ok x) a b accepted refused = (none_refused a b accepted, tt)
  read_result (Err fault) a b accepted refused = (tt, at_values a b fault refused)
