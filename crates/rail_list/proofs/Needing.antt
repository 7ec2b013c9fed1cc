-- Moves that claim one of some sections, asked move by move and section by section.
use Rattle.std.proofs.Common.{◌≡◌, ℕ, zero, suc, Bool, true, false, not, ◌||◌, List, [], ◌∷◌, refl, sym, ap, ◌∙◌}
use Rattle.std.specs.List.{list_any}
use Rattle.rail_rules.specs.Numbers.{any_below, are_apart, is_in}

exchanged : (a b c d : Bool) → ((a || b) || (c || d)) ≡ ((a || c) || (b || d))
exchanged true b c d = refl
exchanged false true true d = refl
exchanged false true false d = refl
exchanged false false c d = refl

-- an element passes one of two tests where one passes the first, or one the second
either : (p q : ℕ → Bool) (xs : List ℕ) → list_any (λ x. p x || q x) xs ≡ (list_any p xs || list_any q xs)
either p q [] = refl
either p q (x ∷ xs) =
    ap (λ b. (p x || q x) || b) (either p q xs)
    ∙ exchanged (p x) (q x) (list_any p xs) (list_any q xs)

never : (xs : List ℕ) → list_any (λ x. false) xs ≡ false
never [] = refl
never (x ∷ xs) = never xs

twice_not : (b : Bool) → not (not b) ≡ b
twice_not true = refl
twice_not false = refl

-- one of so many moves claims one of the sections where one of the sections is claimed by one of the moves
pub claimed_by_one : (claim : ℕ → List ℕ) (sections : List ℕ) (count : ℕ)
    → any_below (λ m. not (are_apart sections (claim m))) count ≡ list_any (λ x. any_below (λ m. is_in x (claim m)) count) sections
claimed_by_one claim sections zero = sym (never sections)
claimed_by_one claim sections (suc n) =
    let before : ℕ → Bool = λ x. any_below (λ m. is_in x (claim m)) n in
    let here : ℕ → Bool = λ x. is_in x (claim n) in
    ap (λ b. b || not (are_apart sections (claim n))) (claimed_by_one claim sections n)
    ∙ ap (λ b. list_any before sections || b) (twice_not (list_any here sections))
    ∙ sym (either before here sections)
