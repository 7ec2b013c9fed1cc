use Rattle.std.proofs.Common.{◌≡◌, ◌-◌, ◌∷◌, ◌++◌, codes}
use Rattle.std.specs.List.{flat_map, range_with_len}
use Rattle.rail_gen.specs.LinePlants.{plain, station_sections}
use Rattle.rail_gen.proofs.tracks.add_sections.Given as goal

abbrev pub invariant-loop-k : goal.invariant-loop-k
invariant-loop-k l = l.network ≡ record l.fn.network {
  sections = l.fn.network.sections ++ plain (codes "X0") 3_000 100 (codes "w") (codes "a1") ∷ flat_map (station_sections l.count) (range_with_len 1 (l.k - 1));
}
