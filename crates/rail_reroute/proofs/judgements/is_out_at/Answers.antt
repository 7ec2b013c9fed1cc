use Rattle.std.proofs.Common.{◌≡◌, List, length, get_or, nat_eq, sym, ap, ◌∙◌}
use Rattle.std.proofs.lemmas.List.{get_or_default}
use Rattle.rail_rules.specs.Plant.{moves}
use Rattle.rail_scene.specs.declared.scene.SceneTrain.{SceneTrain}
use Rattle.rail_compile.specs.Itineraries.{plant_of_scene}
use Rattle.rail_reroute.specs.Judgements.{no_scene_train}
use Rattle.rail_reroute.proofs.Refused.{moves_are}
use Rattle.rail_reroute.proofs.judgements.is_out_at.Goals as goal

pub returns : goal.returns
returns c =
    let trains : List SceneTrain = c.args.scene.now.trains in
    let t = c.args.train in
    let row : SceneTrain = c.index-as_slice-from.result in
    let at : c.from.result ≡ t = c.from.ensures ∙ c.train.view_is in
    let here : row ≡ get_or trains t no_scene_train =
    c.index-as_slice-from.is
    ∙ ap (λ (rows : List SceneTrain). get_or rows c.from.result row) c.as_slice.ensures
    ∙ ap (λ k. get_or trains k row) at
    ∙ get_or_default trains t row no_scene_train c.requires in
    let count : length c.as_slice-2.result.now ≡ moves (plant_of_scene c.args.scene.now) t =
    ap length c.as_slice-2.ensures ∙ ap (λ (r : SceneTrain). length r.routes) here ∙ sym (moves_are c.args.scene.now t c.requires) in
    λ i. nat_eq (c.from-2.ensures i) (count i)
