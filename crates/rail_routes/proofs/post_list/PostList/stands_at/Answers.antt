use Rattle.std.proofs.Common.{nat_lt, ap, sym, ◌∙◌}
use Rattle.std.specs.List.{list_any}
use Rattle.rail_track.proofs.CallerLemmas.{list_any-count_by}
use Rattle.rail_routes.specs.Net.{stands_at}
use Rattle.rail_routes.proofs.post_list.PostList.stands_at.Goals as goal

pub returns : goal.returns
returns c =
    let posts = c.self.inside.posts in
    let joint = c.args.joint in
    ap (nat_lt 0) (c.times.ensures ∙ c.self.invariant.counted joint) ∙ sym (list_any-count_by (stands_at joint) posts) ∙ ap (list_any (stands_at joint)) c.self.view_is
