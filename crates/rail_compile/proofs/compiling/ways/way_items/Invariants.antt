use Rattle.std.proofs.Common.{◌≡◌, map, take}
use Rattle.rail_compile.specs.Ways.{way_over}
use Rattle.rail_compile.proofs.compiling.ways.way_items.Given as goal

abbrev pub invariant-loop-route : goal.invariant-loop-route
invariant-loop-route l = l.ways.items ≡ map (way_over l.network) (take l.route-index l.route-items)
