use Rattle.std.proofs.Common.{ap, ◌∙◌}
use Rattle.std.specs.Option.{option_or}
use Rattle.rail_routes.specs.Net.{post_named}
use Rattle.rail_routes.proofs.Removals.{post_of_lists}
use Rattle.rail_routes.proofs.network.Network.take_back_post.Goals as goal

pub returns-clause-taken : goal.returns-clause-taken
returns-clause-taken c =
    let found = post_of_lists c.args.name c.self.inside.portals c.self.inside.signals c.self.inside.boards _ _ _ _ c.remove-portal.ensures.post c.remove-signal.ensures.post c.remove-board.ensures.post (c.or-2.ensures ∙ ap (λ o. option_or o c.remove-board.result) c.or.ensures) in
    found ∙ ap (post_named c.args.name) c.self.view_is
