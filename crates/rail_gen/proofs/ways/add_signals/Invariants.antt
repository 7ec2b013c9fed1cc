use Rattle.std.proofs.Common.{◌≡◌, ◌-◌, ◌++◌}
use Rattle.std.specs.List.{flat_map, range_with_len}
use Rattle.rail_gen.specs.LinePlants.{station_signals}
use Rattle.rail_gen.proofs.ways.add_signals.Given as goal

abbrev pub invariant-loop-k : goal.invariant-loop-k
invariant-loop-k l = l.network ≡ record l.fn.network { signals = l.fn.network.signals ++ flat_map station_signals (range_with_len 1 (l.k - 1)) }
