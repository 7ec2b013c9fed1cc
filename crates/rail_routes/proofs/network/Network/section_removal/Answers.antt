use Rattle.std.proofs.Common.{ap, ◌∙◌, sym}
use Rattle.rail_routes.specs.Net.{Net}
use Rattle.rail_track.specs.Joints.{section_named}
use Rattle.rail_routes.proofs.Removals.{section_removal_used, section_removal_unknown}
use Rattle.rail_routes.proofs.network.Network.section_removal.Goals as goal

pub returns-in-Some : goal.returns-in-Some
returns-in-Some c =
    c.use_refusal.ensures ∙ sym (section_removal_used c.args.self.now c.args.name c.in-Some.section.now (ap (λ (net : Net). section_named c.args.name net.sections) (sym c.self.view_is) ∙ sym c.in-Some.ensures))

pub returns-in-None : goal.returns-in-None
returns-in-None c =
    c.refused.ensures ∙ sym (section_removal_unknown c.args.self.now c.args.name (ap (λ (net : Net). section_named c.args.name net.sections) (sym c.self.view_is) ∙ sym c.in-None.ensures))
