use Rattle.std.proofs.Common.{ap, ◌∙◌, sym}
use Rattle.rail_routes.specs.Net.{Net}
use Rattle.rail_track.specs.Joints.{section_named}
use Rattle.rail_routes.proofs.Removals.{never_refused, section_known}
use Rattle.rail_routes.specs.NetworkFields.{lists_of}
use Rattle.rail_routes.specs.Uses.{section_removal}
use Rattle.rail_routes.proofs.SectionChanges.{sound_after_removal}
use Rattle.std.proofs.Common.{◌≡◌}
use Rattle.rail_track.specs.Joints.{is_named}
use Rattle.rail_track.specs.declared.section.Section.{Section}
use Rattle.rail_track.proofs.CallerLemmas.{same_from_name}
use Rattle.rail_routes.proofs.Restorings.{passes_if_found, stood_if_found}
use Rattle.rail_routes.proofs.network.Network.remove_section.Goals as goal

pub returns-clause-refused : goal.returns-clause-refused
returns-clause-refused c =
    never_refused c.remove_section.result _ _ c.remove_section.ensures.absent
    (λ none. section_known c.args.self.now c.args.name (sym c.in_default.ensures) (ap (λ (net : Net). section_named c.args.name net.sections) (sym c.self.view_is) ∙ none))

pub invariant_of-self : goal.invariant_of-self
invariant_of-self c =
    let is = c.self.invariant in
    record {
      sound = sound_after_removal (lists_of c.self.inside) c.args.name _ c.remove_section.result is.sound (ap (λ (net : Net). section_removal net c.args.name) c.self.view_is ∙ sym c.in_default.ensures)
          c.remove_section.ensures.sound c.remove_section.ensures.removed c.remove_section.ensures.rest c.remove_section.ensures.unchanged;
      claimed = is.claimed;
      turned = is.turned;
      routed = is.routed;
    }

pub returns-clause-sound : goal.returns-clause-sound
returns-clause-sound c =
    sound_after_removal (lists_of c.self.inside) c.args.name _ c.remove_section.result c.self.invariant.sound (ap (λ (net : Net). section_removal net c.args.name) c.self.view_is ∙ sym c.in_default.ensures)
    c.remove_section.ensures.sound c.remove_section.ensures.removed c.remove_section.ensures.rest c.remove_section.ensures.unchanged

pub returns-clause-named : goal.returns-clause-named
returns-clause-named c =
    passes_if_found (is_named c.args.name) c.self.inside.track c.remove_section.result (λ (s : Section). s.name ≡ c.args.name) c.remove_section.ensures.removed (λ (s : Section) passes. sym (same_from_name c.args.name s.name passes))

pub returns-clause-stood : goal.returns-clause-stood
returns-clause-stood c =
    stood_if_found (is_named c.args.name) c.self.inside.track c.remove_section.result c.args.self.now.sections _ c.remove_section.ensures.removed c.remove_section.ensures.rest (ap (λ (net : Net). net.sections) c.self.view_is)
