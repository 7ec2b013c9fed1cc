use Rattle.std.proofs.Common.{◌≡◌, ℕ, ◌+◌, ◌<◌, refl, sym, subst, arith, rules}
use Rattle.std.specs.Int.{bit_at}
use Rattle.std.proofs.lemmas.List.{set-get_or}
use Rattle.rail_sets.specs.declared.counts.TheConstants.{DIGITS}
use Rattle.rail_sets.specs.Counts.{column}
use Rattle.rail_sets.proofs.Digits.{borrowed_on, borrowed_out}
use Rattle.rail_sets.proofs.counts.borrow.Goals as goal

pub loop-digit-preserved : goal.loop-digit-preserved
loop-digit-preserved c = borrowed_on c.args.digits.now c.loop-digit.digit-items c.loop-digit.digit-index _ (omega (arith, c.loop-digit-test.true, c.loop-digit.invariant.long)) c.args.less c.loop-digit.borrowed (search rules) c.loop-digit.invariant refl

pub returns-then-borrowed-eq0 : goal.returns-then-borrowed-eq0
returns-then-borrowed-eq0 c =
    subst (λ new. (bit : ℕ) → bit < 64 → column new bit + bit_at c.args.less bit ≡ column c.args.digits.now bit) (sym (set-get_or c.loop-digit.digit-items c.loop-digit.digit-index 0))
    (borrowed_out c.args.digits.now c.loop-digit.digit-items c.args.less c.loop-digit.borrowed c.loop-digit.digit-index DIGITS (omega (arith, c.loop-digit-test.true)) c.if-borrowed-eq0.true c.loop-digit.invariant)
