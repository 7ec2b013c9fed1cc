use Rattle.std.proofs.Common.{length, get_or, ap, ◌∙◌, arith}
use Rattle.rail_routes.specs.SoundNetworks.{is_sound_route}
use Rattle.rail_compile.proofs.Finds.{all_read}
use Rattle.rail_compile.proofs.compiling.ways.way_items.Goals as goal

pub way_over-requires : goal.way_over-requires
way_over-requires c =
    let net = c.args.network.now in
    let items = c.routes-route-items.ensures.routes in
    let i = c.loop-route.route-index in
    all_read (is_sound_route net) net.routes i c.route-item.result c.routes-route-items.ensures.sound.routes (omega (arith, ap length items, c.loop-route-test.true)) (c.route-item.is ∙ ap (λ rs. get_or rs i c.route-item.result) items)
