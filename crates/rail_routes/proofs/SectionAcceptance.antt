-- The sections of a sound network are accepted one after the other, in their order.
use Rattle.std.proofs.Common.{◌≡◌, Bool, true, false, ◌||◌, List, [], ◌∷◌, ◌++◌, None, refl, subst, ◌∙◌}
use Rattle.rail_base.specs.FirstRefusals.{first_failing}
use Rattle.rail_track.specs.declared.section.Section.{Section}
use Rattle.rail_track.specs.Joints.{is_full}
use Rattle.rail_track.specs.SectionRules.{section_tests}
use Rattle.rail_track.specs.SoundTracks.{IsSoundTrack}
use Rattle.rail_track.proofs.CallerLemmas.{accepted_after}
use Rattle.rail_routes.specs.Net.{Net}
use Rattle.rail_routes.specs.SectionRules.{net_section_refusal}
use Rattle.rail_routes.specs.SoundNetworks.{IsSoundNetwork}

or_false : (b : Bool) → (b || false) ≡ b
or_false true = refl
or_false false = refl

-- a section of a sound network is accepted after those before it, where there is nothing else yet
pub section_after : (net : Net) (before : List Section) (s : Section) (after : List Section) → IsSoundNetwork net → net.sections ≡ before ++ s ∷ after
    → net_section_refusal (record { sections = before; portals = []; signals = []; boards = []; turns = []; routes = [] }) s ≡ None
section_after net before s after sound is =
    (λ i. first_failing (section_tests before (λ joint. or_false (is_full before joint) i) s))
    ∙ accepted_after before s after (subst IsSoundTrack is sound.distinct.track)
