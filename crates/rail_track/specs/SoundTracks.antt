-- Sound tracks.
use Rattle.std.specs.Prelude.{ℕ, ◌≤◌, Bool, not, ◌==◌, ◌&&◌, List, length, IsTrue}
use Rattle.std.specs.List.{list_any, list_all}
use Rattle.rail_base.specs.Limits.{is_from_one, most, Sections, SectionLength, Speed}
use Rattle.rail_track.specs.declared.section.Section.{Section}
use Rattle.rail_base.specs.Lists.{are_distinct}
use Rattle.rail_track.specs.Joints.{sections_at}
use Rattle.rail_base.specs.NameForms.{same_name}
use Rattle.rail_track.specs.SectionRules.{joint_count, stands_twice}

-- the numbers of the section are in range, and its joints are as many as its kind has, each another
abbrev pub is_fit : Section → Bool
is_fit section =
    is_from_one (most SectionLength) section.length && is_from_one (most Speed) section.speed
    && length section.joints == joint_count section.kind && not (list_any (stands_twice section.joints) section.joints)

-- the sections have one name
abbrev pub have_one_name : Section → Section → Bool
have_one_name section other = same_name section.name other.name

-- a sound track has few enough sections, each fit and of another name, and each joint is in at most two of them
pub record IsSoundTrack (sections : List Section) : Type 0 where
  pub few : length sections ≤ most Sections
  pub fit : IsTrue (list_all is_fit sections)
  pub distinct : IsTrue (are_distinct have_one_name sections)
  pub joined : (joint : List ℕ) → sections_at sections joint ≤ 2
