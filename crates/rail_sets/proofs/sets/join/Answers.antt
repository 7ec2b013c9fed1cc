use Rattle.std.proofs.Common.{◌∙◌, ap, ◌/◌, ◌%◌, ⊎_elim, sym, get_or, arith, refl}
use Rattle.std.specs.Int.{bit_at}
use Rattle.std.proofs.lemmas.Bool.{cases_lt}
use Rattle.std.proofs.lemmas.Nat.Bits.{bit_at_or, bit_at-lt}
use Rattle.rail_sets.proofs.Words.{has_past, or_by_bits, or_out, same_word}
use Rattle.rail_sets.specs.Sets.{has}
use Rattle.rail_sets.proofs.sets.join.Goals as goal

pub returns-clause-set : goal.returns-clause-set
returns-clause-set c = λ x.
    let k = x / 64 in
    let bit = x % 64 in
    let old = get_or c.args.set.now k 0 in
    let other = get_or c.args.other.now k 0 in
    let new = get_or c.loop-index.set k 0 in
    ⊎_elim
    (λ low.
    or_by_bits (has c.args.set.now x) (has c.args.other.now x) (has c.loop-index.set x) (bit_at old bit) (bit_at other bit) (bit_at new bit) refl refl refl
    (bit_at-lt old bit) (bit_at-lt other bit) (ap (λ n. bit_at n bit) (c.loop-index.invariant.joined k low) ∙ bit_at_or old other bit))
    (λ past.
    same_word c.args.set.now c.loop-index.set x (c.loop-index.invariant.rest k past)
    ∙ sym (or_out (has c.args.set.now x) (has c.args.other.now x) (has_past c.args.other.now x (omega (arith, past, c.loop-index-test.false)))))
    (cases_lt k c.loop-index.index)
