use Rattle.std.proofs.Common.{◌≡◌, ℕ, ◌+◌, ◌<◌, ◌≤◌, Bool, true, false, ap, arith}
use Rattle.rail_base.specs.declared.limits.TheConstants.{TRAINS}
use Rattle.rail_sets.specs.Counts.{count_of, one_if}
use Rattle.rail_tests_calls.proofs.sets.counted.Goals as goal

one_at_most : (is : Bool) → one_if is ≤ 1
one_at_most true = omega arith
one_at_most false = omega arith

few_of : (a b c d m n : ℕ) → d ≡ c → c ≡ b + m → b ≡ a + n → a ≡ 0 → m ≤ 1 → n ≤ 1 → d ≤ TRAINS
few_of a b c d m n copied second first none few_m few_n = omega (arith, copied, second, first, none, few_m, few_n)

some_of : (a b c d e k m n : ℕ) → e ≡ d + k → d ≡ c → c ≡ b + m → b ≡ a + n → n ≡ 1 → 0 < e
some_of a b c d e k m n third copied second first one = omega (arith, third, copied, second, first, one)

few_at : (a b n : ℕ) → b ≡ a + n → a ≡ 0 → n ≤ 1 → b ≤ TRAINS
few_at a b n first none few_n = omega (arith, first, none, few_n)

pub count_up-requires-2-clause-few : goal.count_up-requires-2-clause-few
count_up-requires-2-clause-few c = λ x _. few_at _ _ _ (c.count_up.ensures x) (c.in_ok-counts.ensures x) (one_at_most _)

pub count_up-requires-3-clause-few : goal.count_up-requires-3-clause-few
count_up-requires-3-clause-few c = λ x _.
    few_of _ _ _ _ _ _ (ap (λ counts. count_of counts x) c.copy_from.ensures) (c.count_up-2.ensures x) (c.count_up.ensures x) (c.in_ok-counts.ensures x)
    (one_at_most _)
    (one_at_most _)

pub count_down-requires-clause-some : goal.count_down-requires-clause-some
count_down-requires-clause-some c = λ x is.
    some_of _ _ _ _ _ _ _ _ (c.count_up-3.ensures x) (ap (λ counts. count_of counts x) c.copy_from.ensures) (c.count_up-2.ensures x) (c.count_up.ensures x) (ap one_if is)
