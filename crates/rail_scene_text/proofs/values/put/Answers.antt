use Rattle.std.proofs.Common.{◌∙◌, ap}
use Rattle.toml.specs.View.{view, table_view}
use Rattle.rail_scene_text.specs.Tables.{put}
use Rattle.rail_scene_text.proofs.Putting.{members_view-insert}
use Rattle.rail_scene_text.proofs.values.put.Goals as goal

pub returns-in-Ok : goal.returns-in-Ok
returns-in-Ok c =
    rw c.in-Ok.ensures.entries (members_view-insert c.args.members.now.entries c.in_ok-text.text c.args.value ∙ ap (λ k. put k (view c.args.value) (table_view c.args.members.now)) (c.in_ok-text.ensures.ok ∙ c.text.ensures.text))
