-- Sums over numbers below a bound, and the length of gathered lists.
use Rattle.std.proofs.Common.{◌≡◌, ℕ, zero, suc, ◌+◌, ◌*◌, ◌<◌, ◌≤◌, Bool, true, false, cond, eqb, List, length, refl, sym, ◌∙◌, subst, ⊎_elim, arith, length-append}
use Rattle.std.proofs.lemmas.Bool.{cases_lt, cond-true, cond-false, ne_eqb, eq-eqb}
use Rattle.rail_rules.specs.Numbers.{sum_below, gather}

pub length-gather : {X : Type 0} (f : ℕ → List X) (n : ℕ) → length (gather f n) ≡ sum_below (λ i. length (f i)) n
length-gather f zero = refl
length-gather f (suc n) = length-append (gather f n) (f n) ∙ omega (arith, length-gather f n)

pub sum-plus : (f g : ℕ → ℕ) (n : ℕ) → sum_below (λ i. f i + g i) n ≡ sum_below f n + sum_below g n
sum-plus f g zero = refl
sum-plus f g (suc n) = omega (arith, sum-plus f g n)

pub sum-constant : (c n : ℕ) → sum_below (λ _. c) n ≡ c * n
sum-constant c zero = omega arith
sum-constant c (suc n) = omega (arith, sum-constant c n)

-- sums that differ by one at one number
pub sum-one_more : (f g : ℕ → ℕ) (n t : ℕ) → t < n → g t ≡ suc (f t) → ((i : ℕ) → i < n → (i ≡ t → ⊥) → g i ≡ f i) → sum_below g n ≡ suc (sum_below f n)
sum-one_more f g zero t lt more others = absurd (omega arith)
sum-one_more f g (suc n) t lt more others =
    ⊎_elim
    (λ below. omega (arith, sum-one_more f g n t below more (λ i li ne. others i (omega arith) ne), others n (omega arith) (λ e. omega arith)))
    (λ above.
    let same : t ≡ n = omega arith in
    let P : ℕ → Type 0 = λ k. g k ≡ suc (f k) in
    omega (arith, subst P same more, sum-same f g n (λ i li. others i (omega arith) (λ e. omega arith))))
    (cases_lt t n)
  where
    sum-same : (f g : ℕ → ℕ) (n : ℕ) → ((i : ℕ) → i < n → g i ≡ f i) → sum_below g n ≡ sum_below f n
    sum-same f g zero h = refl
    sum-same f g (suc n) h = omega (arith, sum-same f g n (λ i li. h i (omega arith)), h n (omega arith))

-- a sum over more numbers is no less
pub sum-longer : (f : ℕ → ℕ) (m n : ℕ) → m ≤ n → sum_below f m ≤ sum_below f n
sum-longer f m zero le = let same : m ≡ 0 = omega arith in let P : ℕ → Type 0 = λ k. sum_below f k ≤ 0 in subst P (sym same) (omega arith)
sum-longer f m (suc n) le =
    ⊎_elim
    (λ below. omega (arith, sum-longer f m n (omega arith)))
    (λ above. let same : m ≡ suc n = omega arith in let P : ℕ → Type 0 = λ k. sum_below f k ≤ sum_below f (suc n) in subst P (sym same) (omega arith))
    (cases_lt m (suc n))

-- one of the numbers below the bound is the last one
pub sum-last : (n p : ℕ) → p ≤ n → sum_below (λ m. cond (eqb (suc m) n) 1 0) p ≤ 1
sum-last n p le = ⊎_elim (λ lt. omega (arith, sum-before_last n p lt)) (λ ge. ending p (omega arith)) (cases_lt p n)
  where
    sum-before_last : (n p : ℕ) → p < n → sum_below (λ m. cond (eqb (suc m) n) 1 0) p ≡ 0
    sum-before_last n zero lt = refl
    sum-before_last n (suc p) lt = omega (arith, sum-before_last n p (omega arith), cond-false {A = ℕ} (eqb (suc p) n) 1 0 (ne_eqb (suc p) n (λ e. omega arith)))

    one_at_most : (b : Bool) → cond b 1 0 ≤ 1
    one_at_most true = omega arith
    one_at_most false = omega arith

    ending : (k : ℕ) → k ≡ n → sum_below (λ m. cond (eqb (suc m) n) 1 0) k ≤ 1
    ending zero e = omega arith
    ending (suc k) e = omega (arith, sum-before_last n k (omega arith), one_at_most (eqb (suc k) n))

pub sum-whole : (n : ℕ) → 0 < n → sum_below (λ m. cond (eqb (suc m) n) 1 0) n ≡ 1
sum-whole zero some = absurd (omega arith)
sum-whole (suc n) some = omega (arith, before n (omega arith), cond-true {A = ℕ} (eqb (suc n) (suc n)) 1 0 (eq-eqb (suc n) (suc n) refl))
  where
    before : (p : ℕ) → p < suc n → sum_below (λ m. cond (eqb (suc m) (suc n)) 1 0) p ≡ 0
    before zero lt = refl
    before (suc p) lt = omega (arith, before p (omega arith), cond-false {A = ℕ} (eqb (suc p) (suc n)) 1 0 (ne_eqb (suc p) (suc n) (λ e. omega arith)))
