use Rattle.rail_sets.proofs.Digits.{IsBorrow}
use Rattle.rail_sets.proofs.counts.borrow.Given as goal

abbrev pub invariant-loop-digit : goal.invariant-loop-digit
invariant-loop-digit l = IsBorrow l.fn.digits l.digit-items l.less l.borrowed l.digit-index
