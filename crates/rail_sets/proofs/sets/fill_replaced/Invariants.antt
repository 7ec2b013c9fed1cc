use Rattle.rail_sets.proofs.Words.{IsMade, replaced}
use Rattle.rail_sets.proofs.sets.fill_replaced.Given as goal

abbrev pub invariant-loop-index : goal.invariant-loop-index
invariant-loop-index l = IsMade (replaced l.other l.gone l.come) l.fn.set l.set l.index
