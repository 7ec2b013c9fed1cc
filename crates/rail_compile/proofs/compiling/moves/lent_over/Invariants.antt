use Rattle.std.proofs.Common.{◌≡◌, ◌++◌, drop}
use Rattle.rail_compile.specs.Itineraries.{moves_over}
use Rattle.rail_compile.specs.Ways.{routes_at}
use Rattle.rail_compile.proofs.compiling.moves.lent_over.Given as goal

abbrev pub invariant-loop-index : goal.invariant-loop-index
invariant-loop-index l = l.moves.items ++ moves_over l.network (drop l.index (routes_at l.network l.numbers)) ≡ moves_over l.network (routes_at l.network l.numbers)
