use Rattle.std.proofs.Common.{ap, ◌∙◌, sym, subst}
use Rattle.std.specs.Result.{IfErr}
use Rattle.rail_track.specs.NetFaults.{Answers}
use Rattle.rail_track.specs.declared.section.NetFault.{NetFault}
use Rattle.std.proofs.Common.{Option}
use Rattle.rail_track.proofs.CallerLemmas.{answers_first}
use Rattle.rail_routes.specs.Net.{Net}
use Rattle.rail_routes.specs.SectionRules.{net_section_refusal}
use Rattle.rail_routes.proofs.Extensions.{track_accepts}
use Rattle.rail_routes.specs.NetworkFields.{lists_of}
use Rattle.rail_routes.proofs.SectionChanges.{sound_after_adding}
use Rattle.rail_track.specs.Joints.{is_named, section_named}
use Rattle.rail_track.specs.Lists.{without}
use Rattle.rail_track.proofs.CallerLemmas.{accepted, same_name-self}
use Rattle.rail_routes.specs.SectionRules.{is_closed_by}
use Rattle.rail_routes.proofs.Restorings.{found_last, on_ok_more, without_last}
use Rattle.std.proofs.Common.{◌≡◌, ◌++◌, ◌∷◌, []}
use Rattle.rail_routes.proofs.network.Network.add_section.Goals as goal

pub returns-in-Some-clause-refused : goal.returns-in-Some-clause-refused
returns-in-Some-clause-refused c =
    answers_first (net_section_refusal c.args.self.now c.args.section) c.in-Some.fault (ap (λ (net : Net). net_section_refusal net c.args.section) (sym c.self.view_is) ∙ sym c.in-Some.ensures)

pub returns-clause-refused : goal.returns-clause-refused
returns-clause-refused c =
    let none = ap (λ (net : Net). net_section_refusal net c.args.section) (sym c.self.view_is) ∙ sym c.in_default.ensures in
    let P : Option NetFault → Type 0 = λ first. IfErr c.add_section.result (Answers first) in
    subst P (track_accepts c.self.inside.track c.self.inside.portals c.args.section (sym c.in_default.ensures) ∙ sym none) c.add_section.ensures.refused

pub invariant_of-self : goal.invariant_of-self
invariant_of-self c =
    let is = c.self.invariant in
    record {
      sound = sound_after_adding (lists_of c.self.inside) c.args.section _ c.add_section.result is.sound (sym c.in_default.ensures) c.add_section.ensures.sound c.add_section.ensures.added c.add_section.ensures.unchanged;
      claimed = is.claimed;
      turned = is.turned;
      routed = is.routed;
    }

pub returns-clause-sound : goal.returns-clause-sound
returns-clause-sound c =
    sound_after_adding (lists_of c.self.inside) c.args.section _ c.add_section.result c.self.invariant.sound (sym c.in_default.ensures) c.add_section.ensures.sound c.add_section.ensures.added c.add_section.ensures.unchanged

pub returns-clause-found : goal.returns-clause-found
returns-clause-found c =
    let sections = c.self.inside.track in
    let section = c.args.section in
    let fresh = (accepted sections (is_closed_by sections c.self.inside.portals) section (sym c.in_default.ensures)).fresh in
    on_ok_more c.add_section.result c.add_section.ensures.added (λ (added : c.add_section.new.self ≡ sections ++ section ∷ []). ap (section_named section.name) added ∙ found_last (is_named section.name) sections section fresh (same_name-self section.name))

pub returns-clause-back : goal.returns-clause-back
returns-clause-back c =
    let sections = c.self.inside.track in
    let section = c.args.section in
    let fresh = (accepted sections (is_closed_by sections c.self.inside.portals) section (sym c.in_default.ensures)).fresh in
    on_ok_more c.add_section.result c.add_section.ensures.added
    (λ (added : c.add_section.new.self ≡ sections ++ section ∷ []). ap (without (is_named section.name)) added ∙ without_last (is_named section.name) sections section fresh (same_name-self section.name) ∙ ap (λ (net : Net). net.sections) c.self.view_is)
