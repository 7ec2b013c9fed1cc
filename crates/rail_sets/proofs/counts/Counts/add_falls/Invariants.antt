use Rattle.rail_sets.proofs.Digits.{with_falls}
use Rattle.rail_sets.proofs.Words.{IsMade}
use Rattle.rail_sets.proofs.counts.Counts.add_falls.Given as goal

abbrev pub invariant-loop-index : goal.invariant-loop-index
invariant-loop-index l = IsMade (with_falls l.self l.fn.set l.from l.to) l.fn.set l.set l.index
