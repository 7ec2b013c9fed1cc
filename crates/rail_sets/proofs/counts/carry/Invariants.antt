use Rattle.rail_sets.proofs.Digits.{IsCarry}
use Rattle.rail_sets.proofs.counts.carry.Given as goal

abbrev pub invariant-loop-digit : goal.invariant-loop-digit
invariant-loop-digit l = IsCarry l.fn.digits l.digit-items l.more l.carried l.digit-index
