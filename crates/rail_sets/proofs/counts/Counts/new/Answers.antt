use Rattle.std.proofs.Common.{◌/◌, ◌%◌, ⊎_elim, arith}
use Rattle.std.proofs.lemmas.Bool.{cases_lt}
use Rattle.rail_sets.specs.declared.sets.TheConstants.{WORDS}
use Rattle.rail_sets.proofs.Digits.{count_past}
use Rattle.rail_sets.proofs.counts.Counts.new.Goals as goal

pub returns : goal.returns
returns c = λ x.
    ⊎_elim
    (λ low. c.loop-column.invariant.none (x / 64) (x % 64) (omega (arith, low, c.loop-column-test.false)) (omega arith))
    (λ past. count_past c.loop-column.columns.items x (omega (arith, past, c.loop-column.invariant.long, c.loop-column-test.false)))
    (cases_lt (x / 64) WORDS)
