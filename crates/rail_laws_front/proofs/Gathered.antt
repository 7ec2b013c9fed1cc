-- Tests over lists that are gathered or joined.
use Rattle.std.proofs.Common.{◌≡◌, ℕ, zero, suc, ◌<◌, Bool, true, false, List, [], ◌∷◌, ◌++◌, sym, ◌∙◌, subst, ◌⊎◌, ⊎_elim, arith}
use Rattle.std.specs.List.{list_any}
use Rattle.std.proofs.lemmas.Bool.{or_cases, or_left, or_right, or_from, cases_lt, false≢true}
use Rattle.std.proofs.lemmas.List.Folds.{list_any-append}
use Rattle.rail_rules.specs.Numbers.{gather}

module _ {X : Type 0} (p : X → Bool) where
  pub append_cases : (xs ys : List X) → list_any p (xs ++ ys) ≡ true → (list_any p xs ≡ true) ⊎ (list_any p ys ≡ true)
  append_cases xs ys h = or_cases (list_any p xs) (list_any p ys) (sym (list_any-append p xs ys) ∙ h)

  pub append_left : (xs ys : List X) → list_any p xs ≡ true → list_any p (xs ++ ys) ≡ true
  append_left xs ys h = list_any-append p xs ys ∙ or_left (list_any p xs) (list_any p ys) h

  pub append_right : (xs ys : List X) → list_any p ys ≡ true → list_any p (xs ++ ys) ≡ true
  append_right xs ys h = list_any-append p xs ys ∙ or_right (list_any p xs) (list_any p ys) h

  pub append_none : (xs ys : List X) → list_any p xs ≡ false → list_any p ys ≡ false → list_any p (xs ++ ys) ≡ false
  append_none xs ys h k = list_any-append p xs ys ∙ or_from (list_any p xs) (list_any p ys) h k

  pub gather_found : (f : ℕ → List X) (n : ℕ) → list_any p (gather f n) ≡ true → (i : ℕ) × (i < n) × (list_any p (f i) ≡ true)
  gather_found f zero h = absurd (false≢true h)
  gather_found f (suc n) h =
      ⊎_elim
      (λ earlier. let found = gather_found f n earlier in (found.0, omega (arith, found.1), found.2))
      (λ last. (n, omega arith, last))
      (append_cases (gather f n) (f n) h)

  pub gather_from : (f : ℕ → List X) (n i : ℕ) → i < n → list_any p (f i) ≡ true → list_any p (gather f n) ≡ true
  gather_from f zero i lt h = absurd (omega arith)
  gather_from f (suc n) i lt h =
      ⊎_elim
      (λ below. append_left (gather f n) (f n) (gather_from f n i below h))
      (λ above. let same : i ≡ n = omega arith in let P : ℕ → Type 0 = λ k. list_any p (f k) ≡ true in append_right (gather f n) (f n) (subst P same h))
      (cases_lt i n)

  pub one_found : (x : X) → list_any p (x ∷ []) ≡ true → p x ≡ true
  one_found x h = ⊎_elim (λ is. is) (λ none. absurd (false≢true none)) (or_cases (p x) false h)

  pub one_from : (x : X) → p x ≡ true → list_any p (x ∷ []) ≡ true
  one_from x h = or_left (p x) false h

-- an element that passes a test passes another one too, or the other fails there
pub both_found : {X : Type 0} (p q : X → Bool) (xs : List X) → list_any p xs ≡ true → ((x : X) → p x ≡ true → q x ≡ true) → list_any q xs ≡ true
both_found p q [] h k = absurd (false≢true h)
both_found p q (x ∷ xs) h k =
    ⊎_elim
    (λ here. or_left (q x) (list_any q xs) (k x here))
    (λ later. or_right (q x) (list_any q xs) (both_found p q xs later k))
    (or_cases (p x) (list_any p xs) h)
