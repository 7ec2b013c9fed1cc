-- Tests and sums over the numbers below a bound.
use Rattle.std.proofs.Common.{◌≡◌, ℕ, zero, suc, ◌+◌, ◌<◌, ◌≤◌, Bool, true, false, ◌||◌, refl, subst, ⊎_elim, arith}
use Rattle.std.proofs.lemmas.Bool.{and_parts, and_from, or_parts, or_from, or_cases, or_left, or_right, cases_lt, false≢true}
use Rattle.rail_rules.specs.Numbers.{any_below, all_below, sum_below}

pub all_below_at : (f : ℕ → Bool) (n i : ℕ) → all_below f n ≡ true → i < n → f i ≡ true
all_below_at f zero i h lt = absurd (omega arith)
all_below_at f (suc n) i h lt =
    let parts = and_parts (all_below f n) (f n) h in
    ⊎_elim
    (λ below. all_below_at f n i parts.0 below)
    (λ above. let same : n ≡ i = omega arith in let P : ℕ → Type 0 = λ k. f k ≡ true in subst P same parts.1)
    (cases_lt i n)

pub all_below_from : (f : ℕ → Bool) (n : ℕ) → ((i : ℕ) → i < n → f i ≡ true) → all_below f n ≡ true
all_below_from f zero h = refl
all_below_from f (suc n) h =
    and_from (all_below f n) (f n) (all_below_from f n (λ i below. h i (omega arith))) (h n (omega arith))

pub any_below_at : (f : ℕ → Bool) (n i : ℕ) → any_below f n ≡ false → i < n → f i ≡ false
any_below_at f zero i h lt = absurd (omega arith)
any_below_at f (suc n) i h lt =
    let parts = or_parts (any_below f n) (f n) h in
    ⊎_elim
    (λ below. any_below_at f n i parts.0 below)
    (λ above. let same : n ≡ i = omega arith in let P : ℕ → Type 0 = λ k. f k ≡ false in subst P same parts.1)
    (cases_lt i n)

pub any_below_from : (f : ℕ → Bool) (n i : ℕ) → i < n → f i ≡ true → any_below f n ≡ true
any_below_from f zero i lt h = absurd (omega arith)
any_below_from f (suc n) i lt h =
    ⊎_elim
    (λ below. or_left (any_below f n) (f n) (any_below_from f n i below h))
    (λ above. let same : i ≡ n = omega arith in let P : ℕ → Type 0 = λ k. f k ≡ true in or_right (any_below f n) (f n) (subst P same h))
    (cases_lt i n)

pub any_below_found : (f : ℕ → Bool) (n : ℕ) → any_below f n ≡ true → (i : ℕ) × (i < n) × (f i ≡ true)
any_below_found f zero h = absurd (false≢true h)
any_below_found f (suc n) h =
    ⊎_elim
    (λ earlier. let found = any_below_found f n earlier in (found.0, omega (arith, found.1), found.2))
    (λ last. (n, omega arith, last))
    (or_cases (any_below f n) (f n) h)

pub any_below_none : (f : ℕ → Bool) (n : ℕ) → ((i : ℕ) → i < n → f i ≡ false) → any_below f n ≡ false
any_below_none f zero h = refl
any_below_none f (suc n) h =
    or_from (any_below f n) (f n) (any_below_none f n (λ i below. h i (omega arith))) (h n (omega arith))

pub sum_below_same : (f g : ℕ → ℕ) (n : ℕ) → ((i : ℕ) → i < n → f i ≡ g i) → sum_below f n ≡ sum_below g n
sum_below_same f g zero h = refl
sum_below_same f g (suc n) h = λ k. sum_below_same f g n (λ i below. h i (omega arith)) k + h n (omega arith) k

pub sum_below-le : (f g : ℕ → ℕ) (n : ℕ) → ((i : ℕ) → i < n → f i ≤ g i) → sum_below f n ≤ sum_below g n
sum_below-le f g zero h = omega arith
sum_below-le f g (suc n) h = omega (arith, sum_below-le f g n (λ i below. h i (omega arith)), h n (omega arith))

-- a sum of no greater numbers, one of which is less, is less
pub sum_below-lt : (f g : ℕ → ℕ) (n t : ℕ) → t < n → ((i : ℕ) → i < n → f i ≤ g i) → f t < g t → sum_below f n < sum_below g n
sum_below-lt f g zero t lt h less = absurd (omega arith)
sum_below-lt f g (suc n) t lt h less =
    ⊎_elim
    (λ below. omega (arith, sum_below-lt f g n t below (λ i under. h i (omega arith)) less, h n (omega arith)))
    (λ above.
    let same : t ≡ n = omega arith in
    let P : ℕ → Type 0 = λ k. f k < g k in
    omega (arith, sum_below-le f g n (λ i under. h i (omega arith)), subst P same less))
    (cases_lt t n)
