-- Which sections a network accepts.
use Rattle.std.specs.Prelude.{ℕ, Bool, ◌||◌, List, Option}
use Rattle.std.specs.List.{list_any}
use Rattle.rail_track.specs.declared.section.NetFault.{NetFault}
use Rattle.rail_track.specs.declared.section.Section.{Section}
use Rattle.rail_track.specs.Joints.{is_full}
use Rattle.rail_track.specs.SectionRules.{section_tests}
use Rattle.rail_base.specs.FirstRefusals.{first_failing}
use Rattle.rail_routes.specs.declared.items.Post.{Post}
use Rattle.rail_routes.specs.Net.{Net, stands_at}

-- a joint takes no further section where it is in two or carries a portal
abbrev pub is_closed_by : List Section → List Post → List ℕ → Bool
is_closed_by sections portals joint = is_full sections joint || list_any (stands_at joint) portals

-- why a new section is refused
abbrev pub net_section_refusal : Net → Section → Option NetFault
net_section_refusal net section = first_failing (section_tests net.sections (is_closed_by net.sections net.portals) section)
