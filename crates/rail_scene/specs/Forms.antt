-- Whether a table is of its form: each key that it must have, each value of its kind, and no other key.
use Rattle.std.specs.Prelude.{ℕ, ◌+◌, Bool, true, false, not, ◌&&◌, List, [], ◌∷◌, ◌++◌, Option, is_some}
use Rattle.std.specs.List.{list_all, list_any}
use Rattle.std.specs.Option.{option_map_or}
use Rattle.toml.specs.Data.{Data, Members, no_members, member, as_str, as_integer, as_array, as_table}
use Rattle.rail_base.specs.NameForms.{same_name}
use Rattle.rail_base.specs.declared.refusals.Reason.TheVariants.{KeyMissing, WrongKind, KeyUnknown}
use Rattle.rail_track.specs.declared.section.NetFault.{NetFault}
use Rattle.rail_base.specs.FirstRefusals.{Test}
use Rattle.rail_track.specs.NetFaults.{refused_where}
use Rattle.rail_scene.specs.declared.keys.KeyForm.{KeyForm}
use Rattle.rail_scene.specs.declared.keys.KeyForm.TheVariants.{Name, Policy, Choice, Time, Whole, Joints, Path, Overlap, Itinerary, Tables}
use Rattle.rail_scene.specs.declared.keys.Key.{Key}
use Rattle.rail_scene.specs.Keys.{text_of}
use Rattle.rail_scene.specs.Fields.{value_at, listed}

-- the value is an array whose elements all pass the test
abbrev pub is_list_of : (Data → Bool) → Data → Bool
is_list_of test value = option_map_or (λ array. list_all test (listed array)) (as_array value) false

-- the value is a string
abbrev pub is_string : Data → Bool
is_string value = is_some (as_str value)

-- the value is a whole number
abbrev pub is_whole : Data → Bool
is_whole value = is_some (as_integer value)

-- the value is a table
abbrev pub is_table : Data → Bool
is_table value = is_some (as_table value)

-- the value is of the kind that the form states
abbrev pub is_of : KeyForm → Data → Bool
is_of Name value = is_string value
is_of Policy value = is_string value
is_of Choice value = is_string value
is_of Time value = is_string value
is_of (Whole bounds) value = is_whole value
is_of Joints value = is_list_of is_string value
is_of Path value = is_list_of is_string value
is_of Overlap value = is_list_of is_string value
is_of Itinerary value = is_list_of is_string value
is_of Tables value = is_list_of is_table value

-- the keys of the members of a table
abbrev pub member_keys : Members → List (List ℕ)
member_keys no_members = []
member_keys (member key value members) = key ∷ member_keys members

-- the keys that a value has; what is no table has none
abbrev pub keys_in : Data → List (List ℕ)
keys_in node = option_map_or member_keys (as_table node) []

-- two keys are written alike
abbrev pub have_one_text : Key → Key → Bool
have_one_text key other = same_name (text_of key.name) (text_of other.name)

-- the text is one of the keys
abbrev pub is_known : List Key → List ℕ → Bool
is_known keys text = list_any (λ (key : Key). same_name (text_of key.name) text) keys

-- the table has a key that is none of these
abbrev pub has_unknown : List Key → Data → Bool
has_unknown keys node = list_any (λ text. not (is_known keys text)) (keys_in node)

-- the tests of key n with this value: it is there where it is required, and of the kind that its form states
abbrev pub key_test : ℕ → Key → Option Data → List (Test NetFault)
key_test n key value =
    refused_where KeyMissing n (not (is_some value) && key.required)
    ∷ refused_where WrongKind n (not (option_map_or (is_of key.form) value true))
    ∷ []

-- the tests of the keys, which are numbered from n
abbrev pub key_tests : ℕ → List Key → Data → List (Test NetFault)
key_tests n [] node = []
key_tests n (key ∷ keys) node = key_test n key (value_at key node) ++ key_tests (n + 1) keys node

-- the tests of the form of a table
abbrev pub form_tests : List Key → Data → List (Test NetFault)
form_tests keys node = key_tests 1 keys node ++ refused_where KeyUnknown 0 (has_unknown keys node) ∷ []
