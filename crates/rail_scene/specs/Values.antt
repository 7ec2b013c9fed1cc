-- Whether the values of a table are names and in range.
use Rattle.std.specs.Prelude.{ℕ, ◌+◌, Bool, not, List, [], ◌∷◌, ◌++◌, length, is_some}
use Rattle.toml.specs.Data.{Data}
use Rattle.rail_base.specs.Limits.{is_from_one, most, ItineraryRoutes}
use Rattle.rail_base.specs.declared.refusals.Reason.TheVariants.{BadName, Range}
use Rattle.rail_track.specs.declared.section.NetFault.{NetFault}
use Rattle.rail_base.specs.FirstRefusals.{Test}
use Rattle.rail_track.specs.NetFaults.{refused_where}
use Rattle.rail_scene.specs.declared.keys.KeyForm.{KeyForm}
use Rattle.rail_scene.specs.declared.keys.KeyForm.TheVariants.{Name, Policy, Choice, Time, Whole, Joints, Path, Overlap, Itinerary, Tables}
use Rattle.rail_scene.specs.declared.keys.Key.{Key}
use Rattle.rail_scene.specs.Fields.{name_at, policy_at, number_at, kind_at, time_at, elements_at, are_names, is_joint_count, is_path_count, is_overlap_count}

-- the tests of the names of key n: their number comes before them
abbrev pub list_tests : ℕ → Bool → List Data → List (Test NetFault)
list_tests n is_count values = refused_where Range n (not is_count) ∷ refused_where BadName n (not (are_names values)) ∷ []

-- the tests of the value of key n, by its form
abbrev pub tests_by : KeyForm → ℕ → Key → Data → List (Test NetFault)
tests_by Name n key node = refused_where BadName n (not (is_some (name_at key node))) ∷ []
tests_by Policy n key node = refused_where BadName n (not (is_some (policy_at key node))) ∷ []
tests_by Choice n key node = refused_where Range n (not (is_some (kind_at key node))) ∷ []
tests_by Time n key node = refused_where Range n (not (is_some (time_at key node))) ∷ []
tests_by (Whole bounds) n key node = refused_where Range n (not (is_some (number_at key node))) ∷ []
tests_by Joints n key node = list_tests n (is_joint_count node (length (elements_at key node))) (elements_at key node)
tests_by Path n key node = list_tests n (is_path_count (length (elements_at key node))) (elements_at key node)
tests_by Overlap n key node = list_tests n (is_overlap_count (length (elements_at key node))) (elements_at key node)
tests_by Itinerary n key node = list_tests n (is_from_one (most ItineraryRoutes) (length (elements_at key node))) (elements_at key node)
tests_by Tables n key node = []

-- the tests of the values of the keys, which are numbered from n
abbrev pub value_tests : ℕ → List Key → Data → List (Test NetFault)
value_tests n [] node = []
value_tests n (key ∷ keys) node = tests_by key.form n key node ++ value_tests (n + 1) keys node
