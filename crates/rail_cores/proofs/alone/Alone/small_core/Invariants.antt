use Rattle.rail_place.specs.Tables.{moves_in}
use Rattle.rail_cores.specs.Alones.{IsAloneFor}
use Rattle.rail_cores.proofs.alone.Alone.small_core.Given as goal

abbrev pub invariant-loop : goal.invariant-loop
invariant-loop l = IsAloneFor (moves_in l.moves) l.self
