-- Tests, sums and lists over the numbers below a bound, and lists of numbers.
use Rattle.std.specs.Prelude.{ℕ, zero, suc, ◌+◌, ◌-◌, ◌/◌, ◌==◌, Bool, true, false, not, ◌&&◌, ◌||◌, cond, nat_lt, List, [], ◌∷◌, ◌++◌, Option, Some, None}
use Rattle.std.specs.List.{list_any}
use lib.Pointwise.{pointwise}

-- some number below the bound passes
abbrev pub any_below : (ℕ → Bool) → ℕ → Bool
any_below test zero = false
any_below test (suc n) = any_below test n || test n

-- each number below the bound passes
abbrev pub all_below : (ℕ → Bool) → ℕ → Bool
all_below test zero = true
all_below test (suc n) = all_below test n && test n

-- the sum over the numbers below the bound
abbrev pub sum_below : (ℕ → ℕ) → ℕ → ℕ
sum_below f zero = 0
sum_below f (suc n) = sum_below f n + f n

-- the lists of the numbers below the bound, one after another
abbrev pub gather : {X : Type 0} → (ℕ → List X) → ℕ → List X
gather f zero = []
gather f (suc n) = gather f n ++ f n

-- the items of the numbers below the bound
abbrev pub listed : {X : Type 0} → (ℕ → X) → ℕ → List X
listed f n = gather (λ i. f i ∷ []) n

-- the first of two that is there
abbrev pub or_else : {X : Type 0} → Option X → Option X → Option X
or_else (Some x) other = Some x
or_else None other = other

-- the least number below the bound that passes
abbrev pub first_below : (ℕ → Bool) → ℕ → Option ℕ
first_below test zero = None
first_below test (suc n) = or_else (first_below test n) (cond (test n) (Some n) None)

-- the number stands in the list
abbrev pub is_in : ℕ → List ℕ → Bool
is_in x xs = list_any (λ y. y == x) xs

-- no number stands in both lists
abbrev pub are_apart : List ℕ → List ℕ → Bool
are_apart xs ys = not (list_any (λ x. is_in x ys) xs)

-- two lists are the same
abbrev pub same_numbers : List ℕ → List ℕ → Bool
same_numbers = pointwise (λ (x y : ℕ). x == y)

-- the first number that differs, compared in turn, is less
abbrev pub comes_before : List ℕ → List ℕ → Bool
comes_before (x ∷ xs) (y ∷ ys) = nat_lt x y || ((x == y) && comes_before xs ys)
comes_before _ _ = false

-- a / b, rounded up to a whole number
abbrev pub quotient_up : ℕ → ℕ → ℕ
quotient_up a b = (a + (b - 1)) / b
