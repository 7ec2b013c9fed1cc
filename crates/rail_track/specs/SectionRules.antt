-- Which sections are accepted.
use Rattle.std.specs.Prelude.{ℕ, Bool, not, ◌==◌, ◌&&◌, ◌||◌, List, ◌∷◌, Option, length, count_by, nat_le}
use Rattle.std.specs.List.{list_any}
use Rattle.rail_base.specs.NameForms.{same_name}
use Rattle.rail_base.specs.Limits.{is_from_one, most, Sections, SectionLength, Speed}
use Rattle.rail_base.specs.declared.refusals.Reason.TheVariants.{TooMany, Range, Repeated, JointCrowded}
use Rattle.rail_track.specs.declared.section.NetFault.{NetFault}
use Rattle.rail_track.specs.declared.section.Section.{Section}
use Rattle.rail_track.specs.declared.section.SectionKind.{SectionKind}
use Rattle.rail_track.specs.declared.section.SectionKind.TheVariants.{Plain, Points, Crossing, Slip}
use Rattle.rail_track.specs.Joints.{is_named, is_full}
use Rattle.rail_base.specs.FirstRefusals.{Test, first_failing, tests_over}
use Rattle.rail_track.specs.NetFaults.{refused_where}

-- how many joints a section of the kind has
abbrev pub joint_count : SectionKind → ℕ
joint_count Plain = 2
joint_count Points = 3
joint_count Crossing = 4
joint_count Slip = 4

-- the joint stands twice among the joints
abbrev pub stands_twice : List (List ℕ) → List ℕ → Bool
stands_twice joints joint = nat_le 2 (count_by (same_name joint) joints)

-- each joint takes a further section: it stands once in this one, and is not closed to others
abbrev pub joint_tests : (List ℕ → Bool) → List (List ℕ) → List (Test NetFault)
joint_tests is_closed joints =
    tests_over (λ step joint. refused_where JointCrowded step (stands_twice joints joint || is_closed joint)) 1 joints

-- the tests of a new section beside these, in their order
abbrev pub section_tests : List Section → (List ℕ → Bool) → Section → List (Test NetFault)
section_tests sections is_closed section =
    refused_where TooMany 0 (nat_le (most Sections) (length sections))
    ∷ refused_where Range 3 (not (is_from_one (most SectionLength) section.length))
    ∷ refused_where Range 4 (not (is_from_one (most Speed) section.speed))
    ∷ refused_where Range 5 (not (length section.joints == joint_count section.kind))
    ∷ refused_where Repeated 1 (list_any (is_named section.name) sections)
    ∷ joint_tests is_closed section.joints

-- why a track refuses a new section: a joint that is in two sections is closed
abbrev pub section_refusal : List Section → Section → Option NetFault
section_refusal sections section = first_failing (section_tests sections (is_full sections) section)
