-- First refusals: the tests of an item stand in one list, and the first that fails gives the answer.
use Rattle.std.specs.Prelude.{◌≡◌, ℕ, ◌+◌, Bool, cond, List, [], ◌∷◌, Option, Some, None}

-- a test, with the answer that is given where it fails
pub record Test (R : Type 0) : Type 0 where
  pub answer : R
  pub fails : Bool

-- the answer of the first test that fails
abbrev pub first_failing : {R : Type 0} → List (Test R) → Option R
first_failing [] = None
first_failing (t ∷ ts) = cond t.fails (Some t.answer) (first_failing ts)

-- a test of each item, which are numbered from n
abbrev pub tests_over : {R X : Type 0} → (ℕ → X → Test R) → ℕ → List X → List (Test R)
tests_over test n [] = []
tests_over test n (x ∷ xs) = test n x ∷ tests_over test (n + 1) xs

-- what a call that may be refused answers in place of its result: a refusal is the first one; want of memory, which is none,
-- may stand in place of any answer
abbrev pub IsFirstRefusal : {R : Type 0} → Option R → Option R → Type 0
IsFirstRefusal first (Some refusal) = first ≡ Some refusal
IsFirstRefusal first None = Unit {0}
