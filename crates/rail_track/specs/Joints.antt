-- Sections by name, and the sections at a joint.
use Rattle.std.specs.Prelude.{ℕ, Bool, false, List, Option, count_by, nat_le}
use Rattle.std.specs.Option.{option_map_or}
use Rattle.std.specs.List.{find, list_any}
use Rattle.rail_base.specs.NameForms.{same_name}
use Rattle.rail_track.specs.declared.section.Section.{Section}

-- the section has this name
abbrev pub is_named : List ℕ → Section → Bool
is_named name section = same_name name section.name

-- the section of this name
abbrev pub section_named : List ℕ → List Section → Option Section
section_named name sections = find (is_named name) sections

-- the section has the joint
abbrev pub has_joint : List ℕ → Section → Bool
has_joint joint section = list_any (same_name joint) section.joints

-- the number of sections that the joint is in
abbrev pub sections_at : List Section → List ℕ → ℕ
sections_at sections joint = count_by (has_joint joint) sections

-- the joint is in two sections already
abbrev pub is_full : List Section → List ℕ → Bool
is_full sections joint = nat_le 2 (sections_at sections joint)

-- the section of this name has the joint
abbrev pub section_has : List Section → List ℕ → List ℕ → Bool
section_has sections name joint = option_map_or (has_joint joint) (section_named name sections) false
