use Rattle.std.proofs.Common.{◌+◌, ◌∙◌, sym, subst, arith, rules}
use Rattle.std.specs.Prelude.{bit_or}
use Rattle.std.proofs.lemmas.List.{get_or-drop, get_or-take}
use Rattle.rail_sets.proofs.Digits.{IsHigh, high_more, many_by, no_high, twice_by}
use Rattle.rail_sets.proofs.counts.note.Goals as goal

pub loop-digit-init : goal.loop-digit-init
loop-digit-init c = no_high c.args.digits.now

pub loop-digit-preserved : goal.loop-digit-preserved
loop-digit-preserved c =
    let d = c.args.digits.now in
    let n = c.loop-digit.digit-index in
    subst (λ w. IsHigh d (bit_or c.loop-digit.high w) (n + 1)) (sym (get_or-take 7 _ n 0 (omega (arith, c.loop-digit-test.true)) ∙ get_or-drop 2 d n 0)) (high_more d c.loop-digit.high n c.loop-digit.invariant)

pub returns-clause-many : goal.returns-clause-many
returns-clause-many c = λ bit low. many_by c.args.digits.now c.loop-digit.high 7 bit (subst (IsHigh c.args.digits.now c.loop-digit.high) (omega (arith, c.loop-digit-test.false, c.loop-digit.auto.digit-index-end)) c.loop-digit.invariant)

pub returns-clause-twice : goal.returns-clause-twice
returns-clause-twice c = λ bit low. twice_by c.args.digits.now c.loop-digit.high 7 bit low (search rules) (search rules) (subst (IsHigh c.args.digits.now c.loop-digit.high) (omega (arith, c.loop-digit-test.false, c.loop-digit.auto.digit-index-end)) c.loop-digit.invariant)
