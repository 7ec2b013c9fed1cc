-- What the keys of a table spell, whether or not the table is of its form.
use Rattle.std.specs.Prelude.{ℕ, zero, suc, ℤ, pos, negsuc, ◌==◌, ◌&&◌, ◌||◌, ◌/◌, ◌%◌, Bool, true, if◌then◌else◌, List, [], ◌∷◌, ◌++◌, map, codes, Option, Some, None, option_and_then, unwrap_or, is_some, nat_le}
use Rattle.std.specs.List.{list_all}
use Rattle.std.specs.Option.{option_map_or}
use Rattle.toml.specs.Data.{Data, Items, no_items, item, get, as_str, as_integer, as_array}
use Rattle.rail_base.specs.NameForms.{is_name, same_name}
use Rattle.rail_base.specs.Clock.{time_text}
use Rattle.rail_base.specs.Limits.{is_from_one, most, InputTime, RouteSections, OverlapSections}
use Rattle.rail_track.specs.SectionRules.{joint_count}
use Rattle.rail_track.specs.declared.section.SectionKind.{SectionKind}
use Rattle.rail_track.specs.declared.section.SectionKind.TheVariants.{Plain, Points, Crossing, Slip}
use Rattle.rail_scene.specs.declared.keys.Bounds.{Bounds}
use Rattle.rail_scene.specs.declared.keys.KeyForm.{KeyForm}
use Rattle.rail_scene.specs.declared.keys.KeyForm.TheVariants.{Whole}
use Rattle.rail_scene.specs.declared.keys.Key.{Key}
use Rattle.rail_scene.specs.declared.keys.KeyName.TheVariants as word
use Rattle.rail_scene.specs.declared.versions.Version.{Version}
use Rattle.rail_scene.specs.Keys.{text_of, key_of}
use Rattle.rail_scene.specs.Versions.{newest, version_named}

-- the value of a key
abbrev pub value_at : Key → Data → Option Data
value_at key node = get (text_of key.name) node

-- the string at a key
abbrev pub text_at : Key → Data → Option (List ℕ)
text_at key node = option_and_then as_str (value_at key node)

-- a text as a name, if it is one
abbrev pub name_read : List ℕ → Option (List ℕ)
name_read text = if is_name text then Some text else None

-- the name that a value is
abbrev pub name_in : Data → Option (List ℕ)
name_in value = option_and_then name_read (as_str value)

-- the name at a key
abbrev pub name_at : Key → Data → Option (List ℕ)
name_at key node = option_and_then name_in (value_at key node)

-- the policy at a key; a scene that names none has `fcfs`
abbrev pub policy_at : Key → Data → Option (List ℕ)
policy_at key node = option_map_or name_in (value_at key node) (Some (codes "fcfs"))

-- a whole number that is not negative
abbrev pub counted : ℤ → Option ℕ
counted (pos n) = Some n
counted (negsuc n) = None

-- the number, where it is in its range
abbrev pub bounded : Bounds → ℕ → Option ℕ
bounded bounds n = if nat_le bounds.low n && nat_le n bounds.high then Some n else None

-- the number that a value is, in the range of the form
abbrev pub number_by : KeyForm → Option Data → Option ℕ
number_by (Whole bounds) value =
    option_and_then (bounded bounds) (option_map_or (λ d. option_and_then counted (as_integer d)) value (Some bounds.default))
number_by form value = None

-- the number at a key, which has its default where it is absent
abbrev pub number_at : Key → Data → Option ℕ
number_at key node = number_by key.form (value_at key node)

-- the version that a root names; a root that names none is read as one of the newest
abbrev pub version_of : Data → Version
version_of root = unwrap_or (option_and_then version_named (number_at (key_of word.Version) root)) newest

-- the section kind that a word stands for
abbrev pub kind_named : List ℕ → Option SectionKind
kind_named text =
    if same_name text (codes "plain") then Some Plain
    else if same_name text (codes "points") then Some Points
    else if same_name text (codes "crossing") then Some Crossing
    else if same_name text (codes "slip") then Some Slip
    else None

-- the section kind at a key
abbrev pub kind_at : Key → Data → Option SectionKind
kind_at key node = option_and_then kind_named (text_at key node)

-- the text spells the time, with or without its tenths where they are 0
abbrev pub spells_time : List ℕ → ℕ → Bool
spells_time text time = same_name text (time_text time) || same_name (text ++ codes ".0") (time_text time)

-- the time that the text spells, among those up to the limit
unfoldable pub time_up_to : ℕ → List ℕ → Option ℕ
time_up_to zero text = if spells_time text 0 then Some 0 else None
time_up_to (suc limit) text = if spells_time text (suc limit) then Some (suc limit) else time_up_to limit text

-- the time at a key, up to the greatest of an input
abbrev pub time_at : Key → Data → Option ℕ
time_at key node = option_and_then (time_up_to (most InputTime)) (text_at key node)

-- the elements of an array in order
abbrev pub listed : Items → List Data
listed no_items = []
listed (item d ds) = d ∷ listed ds

-- the elements of a value; what is no array has none
abbrev pub elements_of : Data → List Data
elements_of value = option_map_or listed (as_array value) []

-- the elements at a key
abbrev pub elements_at : Key → Data → List Data
elements_at key node = option_map_or elements_of (value_at key node) []

-- each of the values is a name
abbrev pub are_names : List Data → Bool
are_names values = list_all (λ value. is_some (name_in value)) values

-- the names that the values are
abbrev pub names_in : List Data → List (List ℕ)
names_in values = map (λ value. unwrap_or (name_in value) []) values

-- a section of this table has so many joints; where its kind is none, any number will do
abbrev pub is_joint_count : Data → ℕ → Bool
is_joint_count node n = option_map_or (λ kind. n == joint_count kind) (kind_at (key_of word.SectionKind) node) true

-- so many joints and sections in turn are a path: an odd number, with at least one section and not too many
abbrev pub is_path_count : ℕ → Bool
is_path_count n = is_from_one (most RouteSections) (n / 2) && n % 2 == 1

-- so many sections and joints in turn are an overlap: an even number, with not too many sections
abbrev pub is_overlap_count : ℕ → Bool
is_overlap_count n = nat_le (n / 2) (most OverlapSections) && n % 2 == 0
