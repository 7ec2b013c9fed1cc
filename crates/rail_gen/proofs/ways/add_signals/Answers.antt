use Rattle.std.proofs.Common.{[], ◌++◌, ap, ◌∙◌}
use Rattle.rail_routes.specs.Net.{Net}
use Rattle.rail_gen.specs.LinePlants.{station_signals}
use Rattle.rail_gen.proofs.Ranges.{station_more}
use Rattle.rail_gen.proofs.ways.add_signals.Goals as goal

pub loop-k-preserved : goal.loop-k-preserved
loop-k-preserved c =
    let old = c.args.network.now in
    c.in_ok-add_station_signals.ensures
    ∙ ap (λ (net : Net). record net { signals = net.signals ++ station_signals c.loop-k.k }) c.loop-k.invariant
    ∙ ap (λ xs. record old { signals = xs }) (station_more old.signals [] station_signals c.loop-k.k c.loop-k.auto.k)
