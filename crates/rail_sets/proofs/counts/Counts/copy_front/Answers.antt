use Rattle.std.proofs.Common.{◌/◌, ◌%◌, ap, arith}
use Rattle.rail_sets.specs.Counts.{column}
use Rattle.rail_sets.proofs.counts.Counts.copy_front.Goals as goal

pub returns-clause-front : goal.returns-clause-front
returns-clause-front c = λ x lt. ap (λ col. column col (x % 64)) (c.loop-index.invariant.same (x / 64) (omega (arith, lt, c.loop-index-test.false)))

pub returns-clause-rest : goal.returns-clause-rest
returns-clause-rest c = λ x behind. ap (λ col. column col (x % 64)) (c.loop-index.invariant.rest (x / 64) (omega (arith, behind, c.loop-index.auto.index-end)))
