use Rattle.rail_sets.proofs.Digits.{IsSorted}
use Rattle.rail_sets.proofs.counts.Counts.fill_falls.Given as goal

abbrev pub invariant-loop-index : goal.invariant-loop-index
invariant-loop-index l = IsSorted l.self l.from l.to l.fn.fell l.fell l.fn.shared l.shared l.any l.index
