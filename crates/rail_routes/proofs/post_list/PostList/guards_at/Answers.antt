use Rattle.std.proofs.Common.{nat_lt, ap, sym, ◌∙◌}
use Rattle.std.specs.List.{list_any}
use Rattle.rail_track.proofs.CallerLemmas.{list_any-count_by}
use Rattle.rail_routes.specs.Net.{guards_at}
use Rattle.rail_routes.proofs.post_list.PostList.guards_at.Goals as goal

pub returns : goal.returns
returns c =
    let posts = c.self.inside.posts in
    let test = guards_at c.args.joint c.args.ahead in
    ap (nat_lt 0) (c.times.ensures ∙ c.self.invariant.guarded c.args.joint c.args.ahead) ∙ sym (list_any-count_by test posts) ∙ ap (list_any test) c.self.view_is
