use Rattle.rail_sets.proofs.Digits.{IsHigh}
use Rattle.rail_sets.proofs.counts.note.Given as goal

abbrev pub invariant-loop-digit : goal.invariant-loop-digit
invariant-loop-digit l = IsHigh l.digits l.high l.digit-index
