-- The sections that a move claims, by step.
use Rattle.std.proofs.Common.{◌≡◌, ℕ, zero, suc, ◌<◌, true, eqb, List, [], ◌∷◌, length, get_or, ◌∙◌, ⊎_elim, arith}
use Rattle.std.proofs.lemmas.Bool.{or_right, or_cases, false≢true, eqb-true}
use Rattle.rail_rules.specs.Numbers.{is_in}
use Rattle.rail_rules.specs.Plant.{Plant, needed, claimed, steps, claims, step_section}
use Rattle.rail_rules.proofs.CallerLemmas.{is_in-head, needed_section}

-- the item at an index is in the list
pub get_or_is_in : (xs : List ℕ) (i : ℕ) → i < length xs → is_in (get_or xs i 0) xs ≡ true
get_or_is_in [] i lt = absurd (omega arith)
get_or_is_in (x ∷ xs) zero lt = is_in-head x xs
get_or_is_in (x ∷ xs) (suc i) lt = or_right (eqb x (get_or xs i 0)) (is_in (get_or xs i 0) xs) (get_or_is_in xs i (omega arith))

-- an item of the list has an index
find_in : (x : ℕ) (xs : List ℕ) → is_in x xs ≡ true → (j : ℕ) × (j < length xs) × (get_or xs j 0 ≡ x)
find_in x [] is = absurd (false≢true is)
find_in x (y ∷ ys) is =
    ⊎_elim
    (λ same. (0, omega arith, eqb-true y x same))
    (λ later. let found = find_in x ys later in (suc found.0, omega (arith, found.1), found.2))
    (or_cases (eqb y x) (is_in x ys) is)

-- the section of a step of a move is one that it claims
pub step_claimed : (plant : Plant) (t m j : ℕ) → j < claims plant t m → is_in (step_section plant t m j) (claimed plant t m) ≡ true
step_claimed plant t m j lt = get_or_is_in (claimed plant t m) j lt

-- and a claimed section is that of a step
pub claimed_step : (plant : Plant) (t m x : ℕ) → is_in x (claimed plant t m) ≡ true → (j : ℕ) × (j < claims plant t m) × (step_section plant t m j ≡ x)
claimed_step plant t m x is = find_in x (claimed plant t m) is

-- and a needed section is that of such a step
pub needed_step : (plant : Plant) (t m x : ℕ) → is_in x (needed plant t m) ≡ true → (j : ℕ) × (j < steps plant t m) × (step_section plant t m j ≡ x)
needed_step plant t m x is =
    let found = find_in x (needed plant t m) is in
    (found.0, found.1, needed_section plant t m found.0 found.1 ∙ found.2)
