-- Those of the numbers below a bound that pass a test, in order.
use Rattle.std.proofs.Common.{◌≡◌, ℕ, zero, suc, ◌<◌, Bool, true, false, cond, List, [], ◌∷◌, ◌++◌, refl, sym, ◌∙◌, ap, arith}
use Rattle.std.specs.List.{filter}
use Rattle.std.proofs.lemmas.List.{append-nil}
use Rattle.std.proofs.lemmas.Bool.{cond-true, cond-false}
use Rattle.std.proofs.lemmas.List.Elements.{filter-append}
use Rattle.rail_rules.specs.Numbers.{listed}

-- the numbers below the bound
abbrev pub numbers : ℕ → List ℕ
numbers n = listed (λ t. t) n

-- the bound passes too
pub passes_too : (p : ℕ → Bool) (n : ℕ) → p n ≡ true → filter p (numbers (suc n)) ≡ filter p (numbers n) ++ n ∷ []
passes_too p n passes = filter-append p (numbers n) (n ∷ []) ∙ ap (λ list. filter p (numbers n) ++ list) (cond-true (p n) (n ∷ []) [] passes)

-- the bound doesn't pass
pub passes_not : (p : ℕ → Bool) (n : ℕ) → p n ≡ false → filter p (numbers (suc n)) ≡ filter p (numbers n)
passes_not p n fails =
    filter-append p (numbers n) (n ∷ []) ∙ ap (λ list. filter p (numbers n) ++ list) (cond-false (p n) (n ∷ []) [] fails) ∙ append-nil (filter p (numbers n))

-- tests that agree below the bound let the same numbers pass
pub same_pass : (p q : ℕ → Bool) (n : ℕ) → ((t : ℕ) → t < n → p t ≡ q t) → filter p (numbers n) ≡ filter q (numbers n)
same_pass p q zero same = refl
same_pass p q (suc n) same =
    filter-append p (numbers n) (n ∷ [])
    ∙ ap (λ list. list ++ filter p (n ∷ [])) (same_pass p q n (λ t lt. same t (omega arith)))
    ∙ ap (λ b. filter q (numbers n) ++ cond b (n ∷ []) []) (same n (omega arith))
    ∙ sym (filter-append q (numbers n) (n ∷ []))
