use Rattle.std.proofs.Common.{nat_lt, ap, ◌∙◌, sym}
use Rattle.std.specs.List.{list_any}
use Rattle.rail_base.specs.NameForms.{same_name}
use Rattle.rail_routes.specs.Net.{Net}
use Rattle.rail_routes.specs.Uses.{sections_of, claims}
use Rattle.rail_routes.proofs.Uses.{list_any-sum_by}
use Rattle.rail_routes.proofs.network.Network.is_claimed.Goals as goal

pub returns : goal.returns
returns c =
    ap (nat_lt 0) (c.times.ensures ∙ c.self.invariant.claimed c.args.name) ∙ sym (list_any-sum_by (same_name c.args.name) (sections_of) c.self.inside.routes) ∙ ap (λ (net : Net). list_any (claims c.args.name) net.routes) c.self.view_is
