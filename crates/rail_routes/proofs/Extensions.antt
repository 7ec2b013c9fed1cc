-- What a network accepts, its track accepts.
use Rattle.std.proofs.Common.{◌≡◌, ℕ, Bool, true, false, ◌||◌, List, None, refl}
use Rattle.std.specs.List.{list_any}
use Rattle.rail_base.specs.declared.refusals.Reason.TheVariants.{JointCrowded}
use Rattle.rail_track.specs.declared.section.Section.{Section}
use Rattle.rail_track.specs.Joints.{is_full}
use Rattle.rail_track.specs.SectionRules.{section_tests, section_refusal, stands_twice}
use Rattle.rail_base.specs.FirstRefusals.{first_failing}
use Rattle.rail_base.proofs.CallerLemmas.{all_passed, none_failing}
use Rattle.rail_track.proofs.CallerLemmas.{passes_too}
use Rattle.rail_routes.specs.declared.items.Post.{Post}
use Rattle.rail_routes.specs.Net.{stands_at}
use Rattle.rail_routes.specs.SectionRules.{is_closed_by}

either_less : (a b c : Bool) → (a || (b || c)) ≡ false → (a || b) ≡ false
either_less true b c h = cc
either_less false true c h = cc
either_less false false c h = refl

pub track_accepts : (sections : List Section) (portals : List Post) (section : Section) → first_failing (section_tests sections (is_closed_by sections portals) section) ≡ None → section_refusal sections section ≡ None
track_accepts sections portals section none =
    let a = all_passed (section_tests sections (is_closed_by sections portals) section) none in
    let crowded = λ (joint : List ℕ). stands_twice section.joints joint || is_closed_by sections portals joint in
    let less = λ (joint : List ℕ). stands_twice section.joints joint || is_full sections joint in
    let joints = passes_too JointCrowded crowded less (λ joint h. either_less (stands_twice section.joints joint) (is_full sections joint) (list_any (stands_at joint) portals) h) 1 section.joints a.1.1.1.1.1 in
    none_failing (section_tests sections (is_full sections) section) (a.0, (a.1.0, (a.1.1.0, (a.1.1.1.0, (a.1.1.1.1.0, joints)))))
