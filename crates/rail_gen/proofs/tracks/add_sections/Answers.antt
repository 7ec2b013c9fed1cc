use Rattle.std.proofs.Common.{◌∷◌, [], ◌++◌, codes, ap, ◌∙◌}
use Rattle.rail_routes.specs.Net.{Net}
use Rattle.rail_gen.specs.LinePlants.{plain, station_sections}
use Rattle.rail_gen.proofs.Ranges.{station_more}
use Rattle.rail_gen.proofs.tracks.add_sections.Goals as goal

pub loop-k-preserved : goal.loop-k-preserved
loop-k-preserved c =
    let old = c.args.network.now in
    c.in_ok-add_station_sections.ensures
    ∙ ap (λ (net : Net). record net { sections = net.sections ++ station_sections c.args.count c.loop-k.k }) c.loop-k.invariant
    ∙ ap (λ xs. record old { sections = xs }) (station_more old.sections (plain (codes "X0") 3_000 100 (codes "w") (codes "a1") ∷ []) (station_sections c.args.count) c.loop-k.k c.loop-k.auto.k)
