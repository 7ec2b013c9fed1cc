use Rattle.std.proofs.Common.{◌/◌, arith}
use Rattle.rail_sets.proofs.Words.{has_some, has_within}
use Rattle.rail_sets.proofs.sets.width_of.Goals as goal

pub returns-clause-all : goal.returns-clause-all
returns-clause-all c = λ x is. omega (arith, c.loop-index.invariant.all (x / 64) (omega (arith, has_within c.args.set.now x is)) (has_some c.args.set.now x is))
