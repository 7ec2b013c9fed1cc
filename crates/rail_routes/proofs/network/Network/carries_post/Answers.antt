use Rattle.std.proofs.Common.{ap, ◌∙◌}
use Rattle.std.specs.List.{list_any}
use Rattle.rail_base.specs.NameForms.{same_name}
use Rattle.rail_track.proofs.CallerLemmas.{same_name-comm}
use Rattle.rail_routes.specs.declared.items.Post.{Post}
use Rattle.rail_routes.specs.Net.{posts}
use Rattle.rail_routes.proofs.Uses.{any_swap, any_agree}
use Rattle.rail_routes.proofs.network.Network.carries_post.Goals as goal

pub returns : goal.returns
returns c =
    let all = posts c.args.self.now in
    let joints = c.args.section.now.joints in
    c.has_post_on.ensures ∙ ap (λ js. list_any (λ joint. list_any (λ (post : Post). same_name joint post.joint) all) js) c.as_slice.ensures
    ∙ any_swap (λ joint (post : Post). same_name joint post.joint) joints all
    ∙ any_agree (λ (post : Post). list_any (λ joint. same_name joint post.joint) joints) (λ (post : Post). list_any (same_name post.joint) joints) (λ post. any_agree (λ joint. same_name joint post.joint) (same_name post.joint) (λ joint. same_name-comm joint post.joint) joints) all
