-- Standing sets: ends of routes.
use Rattle.std.proofs.Common.{◌≡◌, ℕ, ◌≤◌, min, ltb, List, [], length, drop, sym, ap, ◌∙◌, ⊎_elim, arith}
use Rattle.std.proofs.lemmas.Bool.{cases_lt, cond-true, cond-false, lt-ltb, le-ltb}
use Rattle.std.proofs.lemmas.List.{length-drop}
use Rattle.rail_rules.specs.Plant.{longer}

-- the longer of two ends begins first
pub longer-drops : (xs : List ℕ) (a b : ℕ) → a ≤ length xs → longer (drop a xs) (drop b xs) ≡ drop (min a b) xs
longer-drops xs a b within =
    ⊎_elim
    (λ earlier.
    let least : min a b ≡ b = omega arith in
    cond-true (ltb (length (drop a xs)) (length (drop b xs))) (drop b xs) (drop a xs) (lt-ltb (length (drop a xs)) (length (drop b xs)) (omega (arith, length-drop a xs, length-drop b xs)))
    ∙ ap (λ k. drop k xs) (sym least))
    (λ later.
    let least : min a b ≡ a = omega arith in
    cond-false (ltb (length (drop a xs)) (length (drop b xs))) (drop b xs) (drop a xs) (le-ltb (length (drop a xs)) (length (drop b xs)) (omega (arith, length-drop a xs, length-drop b xs)))
    ∙ ap (λ k. drop k xs) (sym least))
    (cases_lt b a)

pub longer-none : (xs : List ℕ) → longer xs [] ≡ xs
longer-none xs = cond-false (ltb (length xs) 0) [] xs (le-ltb (length xs) 0 (omega arith))
