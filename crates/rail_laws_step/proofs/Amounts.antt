-- Sums over numbers below a bound.
use Rattle.std.proofs.Common.{◌≡◌, ℕ, zero, suc, ◌+◌, ◌<◌, ◌≤◌, Bool, true, false, refl, sym, ap, ◌∙◌, ⊎_elim, arith}
use Rattle.std.proofs.lemmas.Bool.{cases_Bool, cases_lt, false≢true, or_left, or_right, or_cases}
use Rattle.rail_rules.specs.Numbers.{any_below, sum_below}

pub sum-zero : (f : ℕ → ℕ) (n : ℕ) → ((i : ℕ) → i < n → f i ≡ 0) → sum_below f n ≡ 0
sum-zero f zero each = refl
sum-zero f (suc n) each = omega (arith, sum-zero f n (λ i lt. each i (omega (arith, lt))), each n (omega arith))

pub sum-le : (f g : ℕ → ℕ) (n : ℕ) → ((i : ℕ) → i < n → f i ≤ g i) → sum_below f n ≤ sum_below g n
sum-le f g zero each = omega arith
sum-le f g (suc n) each = omega (arith, sum-le f g n (λ i lt. each i (omega (arith, lt))), each n (omega arith))

pub sum-equal : (f g : ℕ → ℕ) (n : ℕ) → ((i : ℕ) → i < n → f i ≡ g i) → sum_below f n ≡ sum_below g n
sum-equal f g zero each = refl
sum-equal f g (suc n) each = omega (arith, sum-equal f g n (λ i lt. each i (omega (arith, lt))), each n (omega arith))

pub sum-two : (f g h : ℕ → ℕ) (n : ℕ) → ((i : ℕ) → i < n → f i ≡ g i + h i) → sum_below f n ≡ sum_below g n + sum_below h n
sum-two f g h zero each = refl
sum-two f g h (suc n) each = omega (arith, sum-two f g h n (λ i lt. each i (omega (arith, lt))), each n (omega arith))

-- a sum of which one number alone counts
pub sum-only : (f : ℕ → ℕ) (n k : ℕ) → k < n → ((i : ℕ) → i < n → (i ≡ k → ⊥) → f i ≡ 0) → sum_below f n ≡ f k
sum-only f zero k lt others = absurd (omega (arith, lt))
sum-only f (suc n) k lt others =
    ⊎_elim
    (λ below. omega (arith, sum-only f n k below (λ i li ne. others i (omega (arith, li)) ne), others n (omega arith) (λ e. omega (arith, below, e))))
    (λ above.
    let here : n ≡ k = omega (arith, lt, above) in
    omega (arith, ap f here, sum-zero f n (λ i li. others i (omega (arith, li)) (λ e. omega (arith, li, e, here)))))
    (cases_lt k n)

-- some number counts exactly where one passes
pub sum-some : (p : ℕ → Bool) (f : ℕ → ℕ) (n : ℕ) → ((i : ℕ) → i < n → p i ≡ true → 0 < f i) → any_below p n ≡ true → 0 < sum_below f n
sum-some p f zero each h = absurd (false≢true h)
sum-some p f (suc n) each h =
    ⊎_elim
    (λ before. omega (arith, sum-some p f n (λ i lt. each i (omega (arith, lt))) before))
    (λ here. omega (arith, each n (omega arith) here))
    (or_cases (any_below p n) (p n) h)

pub sum-none : (p : ℕ → Bool) (f : ℕ → ℕ) (n : ℕ) → ((i : ℕ) → i < n → p i ≡ false → f i ≡ 0) → any_below p n ≡ false → sum_below f n ≡ 0
sum-none p f zero each h = refl
sum-none p f (suc n) each h =
    let before : any_below p n ≡ false = ⊎_elim (λ some. absurd (false≢true (sym h ∙ or_left (any_below p n) (p n) some))) (λ none. none) (cases_Bool (any_below p n)) in
    let here : p n ≡ false = ⊎_elim (λ some. absurd (false≢true (sym h ∙ or_right (any_below p n) (p n) some))) (λ none. none) (cases_Bool (p n)) in
    omega (arith, sum-none p f n (λ i lt. each i (omega (arith, lt))) before, each n (omega arith) here)

-- each number of a sum is no more than the sum
pub sum-at : (f : ℕ → ℕ) (n k : ℕ) → k < n → f k ≤ sum_below f n
sum-at f zero k lt = absurd (omega (arith, lt))
sum-at f (suc n) k lt =
    ⊎_elim
    (λ below. omega (arith, sum-at f n k below))
    (λ above.
    let here : n ≡ k = omega (arith, lt, above) in
    omega (arith, ap f here))
    (cases_lt k n)

-- a sum over more numbers is no less
pub sum-more : (f : ℕ → ℕ) (n more : ℕ) → sum_below f n ≤ sum_below f (n + more)
sum-more f n zero = let same : n ≡ n + 0 = omega arith in omega (arith, ap (sum_below f) same)
sum-more f n (suc more) = let same : suc (n + more) ≡ n + suc more = omega arith in omega (arith, ap (sum_below f) same, sum-more f n more)

-- a sum of numbers, each of which is shared out in as many shares, is no more than the sum of the shares' sums
pub sum-shared : (g : ℕ → ℕ) (f : ℕ → ℕ → ℕ) (n s : ℕ) → ((i : ℕ) → i < n → g i ≤ sum_below (λ x. f x i) s) → sum_below g n ≤ sum_below (λ x. sum_below (f x) n) s
sum-shared g f zero s each = omega arith
sum-shared g f (suc n) s each =
    omega (
      arith,
      sum-shared g f n s (λ i lt. each i (omega (arith, lt))),
      each n (omega arith),
      sum-two (λ x. sum_below (f x) (suc n)) (λ x. sum_below (f x) n) (λ x. f x n) s (λ x lt. refl),
    )
