use Rattle.std.proofs.Common.{◌∙◌, ap, ◌/◌, ◌%◌, ⊎_elim, sym, get_or, arith, rules, refl, w64}
use Rattle.std.specs.Prelude.{bit_and}
use Rattle.std.specs.Int.{bit_at, bit_not}
use Rattle.std.proofs.lemmas.Bool.{cases_lt}
use Rattle.std.proofs.lemmas.Nat.Bits.{bit_at_and, bit_at_not, bit_at_or, bit_at-lt}
use Rattle.rail_sets.proofs.Words.{has_past, kept_by, replaced_by_bits, same_word}
use Rattle.rail_sets.specs.Sets.{has}
use Rattle.rail_sets.proofs.sets.replace.Goals as goal

pub returns-clause-set : goal.returns-clause-set
returns-clause-set c = λ x.
    let k = x / 64 in
    let bit = x % 64 in
    let old = get_or c.args.set.now k 0 in
    let gone = get_or c.args.gone.now k 0 in
    let come = get_or c.args.come.now k 0 in
    let new = get_or c.loop-index.set k 0 in
    ⊎_elim
    (λ low.
    replaced_by_bits (has c.args.set.now x) (has c.args.gone.now x) (has c.args.come.now x) (has c.loop-index.set x)
    (bit_at old bit) (bit_at gone bit) (bit_at come bit) (bit_at new bit) refl refl refl refl
    (bit_at-lt old bit) (bit_at-lt gone bit) (bit_at-lt come bit)
    (omega (
      arith,
      ap (λ n. bit_at n bit) (c.loop-index.invariant.replaced k low),
      bit_at_or (bit_and old (bit_not w64 gone)) come bit,
      bit_at_and old (bit_not w64 gone) bit,
      bit_at_not w64 gone bit (search rules) (omega arith),
    )))
    (λ past.
    same_word c.args.set.now c.loop-index.set x (c.loop-index.invariant.rest k past)
    ∙ sym (kept_by (has c.args.set.now x) (has c.args.gone.now x) (has c.args.come.now x)
    (has_past c.args.gone.now x (omega (arith, past, c.loop-index-test.false))) (has_past c.args.come.now x (omega (arith, past, c.loop-index-test.false, c.requires.come)))))
    (cases_lt k c.loop-index.index)
