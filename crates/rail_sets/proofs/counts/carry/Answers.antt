use Rattle.std.proofs.Common.{◌≡◌, ℕ, ◌+◌, ◌<◌, refl, sym, subst, arith}
use Rattle.std.specs.Int.{bit_at}
use Rattle.std.proofs.lemmas.List.{set-get_or}
use Rattle.rail_sets.specs.declared.counts.TheConstants.{DIGITS}
use Rattle.rail_sets.specs.Counts.{column}
use Rattle.rail_sets.proofs.Digits.{carried_on, carried_out}
use Rattle.rail_sets.proofs.counts.carry.Goals as goal

pub loop-digit-preserved : goal.loop-digit-preserved
loop-digit-preserved c = carried_on c.args.digits.now c.loop-digit.digit-items c.loop-digit.digit-index _ (omega (arith, c.loop-digit-test.true, c.loop-digit.invariant.long)) c.args.more c.loop-digit.carried c.loop-digit.invariant refl

pub returns-then-carried-eq0 : goal.returns-then-carried-eq0
returns-then-carried-eq0 c =
    subst (λ new. (bit : ℕ) → bit < 64 → column new bit ≡ column c.args.digits.now bit + bit_at c.args.more bit) (sym (set-get_or c.loop-digit.digit-items c.loop-digit.digit-index 0))
    (carried_out c.args.digits.now c.loop-digit.digit-items c.args.more c.loop-digit.carried c.loop-digit.digit-index DIGITS (omega (arith, c.loop-digit-test.true)) c.if-carried-eq0.true c.loop-digit.invariant)
