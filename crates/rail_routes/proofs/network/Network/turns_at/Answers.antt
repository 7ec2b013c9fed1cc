use Rattle.std.proofs.Common.{[], ◌∷◌, nat_lt, ap, ◌∙◌, sym}
use Rattle.std.specs.List.{list_any}
use Rattle.rail_base.specs.NameForms.{same_name}
use Rattle.rail_routes.specs.declared.items.Turn.{Turn}
use Rattle.rail_routes.specs.Net.{Net}
use Rattle.rail_routes.specs.Uses.{turns_at}
use Rattle.rail_routes.proofs.Uses.{list_any-sum_by}
use Rattle.rail_routes.proofs.network.Network.turns_at.Goals as goal

pub returns : goal.returns
returns c =
    ap (nat_lt 0) (c.times.ensures ∙ c.self.invariant.turned c.args.name) ∙ sym (list_any-sum_by (same_name c.args.name) (λ (turn : Turn). turn.arriving ∷ turn.leaving ∷ []) c.self.inside.turns) ∙ ap (λ (net : Net). list_any (turns_at c.args.name) net.turns) c.self.view_is
