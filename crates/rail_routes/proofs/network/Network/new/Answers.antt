use Rattle.std.proofs.Common.{unwrap_or, ap, ◌∙◌, sym}
use Rattle.std.specs.Map.{lookup}
use Rattle.rail_base.specs.NameForms.{same_name}
use Rattle.rail_routes.specs.NetworkFields.{claims_of, turn_uses, route_uses}
use Rattle.rail_routes.proofs.WayChanges.{sound_empty}
use Rattle.rail_routes.proofs.network.Network.new.Goals as goal

pub invariant_of-result : goal.invariant_of-result
invariant_of-result c = record {
  sound = sound_empty _ c.new.ensures.sound c.new-2.ensures c.new-3.ensures c.new-4.ensures c.new-5.ensures c.new-6.ensures;
  claimed = λ name. ap (λ es. unwrap_or (lookup (same_name name) es) 0) c.new-7.ensures.empty ∙ sym (ap (λ routes. claims_of routes name) c.new-6.ensures);
  turned = λ name. ap (λ es. unwrap_or (lookup (same_name name) es) 0) c.new-8.ensures.empty ∙ sym (ap (λ turns. turn_uses turns name) c.new-5.ensures);
  routed = λ name. ap (λ es. unwrap_or (lookup (same_name name) es) 0) c.new-9.ensures.empty ∙ sym (ap (λ routes. route_uses routes name) c.new-6.ensures);
}

pub returns-clause-sound : goal.returns-clause-sound
returns-clause-sound c = sound_empty _ c.new.ensures.sound c.new-2.ensures c.new-3.ensures c.new-4.ensures c.new-5.ensures c.new-6.ensures
