use Rattle.rail_place.specs.Tables.{moves_in}
use Rattle.rail_cores.specs.Alones.{IsAloneFor}
use Rattle.rail_tests_calls.proofs.cores.first_other_line.Given as goal

abbrev pub invariant-loop-line : goal.invariant-loop-line
invariant-loop-line l = IsAloneFor (moves_in l.moves) l.alone
