-- The least number below a bound that passes a test.
use Rattle.std.proofs.Common.{◌≡◌, ℕ, zero, suc, ◌<◌, Bool, true, false, cond, Option, Some, None, refl, sym, ap, ◌∙◌, subst, ⊎_elim, arith}
use Rattle.std.proofs.lemmas.Bool.{cases_lt, cases_Bool, cond-true, cond-false}
use Rattle.std.proofs.lemmas.Option.{none-some}
use Rattle.rail_rules.specs.Numbers.{first_below, or_else, any_below}
use Rattle.rail_rules.proofs.CallerLemmas.{any_below_none}

pub first_below_nothing : (f : ℕ → Bool) (n : ℕ) → ((j : ℕ) → j < n → f j ≡ false) → first_below f n ≡ None
first_below_nothing f zero h = refl
first_below_nothing f (suc n) h =
    ap (λ o. or_else o (cond (f n) (Some n) None)) (first_below_nothing f n (λ j lt. h j (omega arith)))
    ∙ cond-false (f n) (Some n) None (h n (omega arith))

pub first_below_at : (f : ℕ → Bool) (n i : ℕ) → i < n → f i ≡ true → ((j : ℕ) → j < i → f j ≡ false) → first_below f n ≡ Some i
first_below_at f zero i lt is h = absurd (omega arith)
first_below_at f (suc n) i lt is h =
    ⊎_elim
    (λ below. ap (λ o. or_else o (cond (f n) (Some n) None)) (first_below_at f n i below is h))
    (λ above.
    let same : i ≡ n = omega arith in
    let none : first_below f n ≡ None = first_below_nothing f n (λ j lt2. h j (omega arith)) in
    let P : ℕ → Type 0 = λ k. f k ≡ true in
    ap (λ o. or_else o (cond (f n) (Some n) None)) none ∙ cond-true (f n) (Some n) None (subst P same is) ∙ ap (λ k. Some k) (sym same))
    (cases_lt i n)

first_below-step : (f : ℕ → Bool) (n : ℕ) (o : Option ℕ) → o ≡ None → or_else o (cond (f n) (Some n) None) ≡ None → f n ≡ false
first_below-step f n o e h =
    ⊎_elim
    (λ is. absurd (none-some n (sym h ∙ ap (λ p. or_else p (cond (f n) (Some n) None)) e ∙ cond-true (f n) (Some n) None is)))
    (λ out. out)
    (cases_Bool (f n))

or_else_none : (o p : Option ℕ) → or_else o p ≡ None → o ≡ None
or_else_none None p h = refl
or_else_none (Some i) p h = h

pub first_below_none : (f : ℕ → Bool) (n j : ℕ) → first_below f n ≡ None → j < n → f j ≡ false
first_below_none f zero j h lt = absurd (omega arith)
first_below_none f (suc n) j h lt =
    let earlier : first_below f n ≡ None = or_else_none (first_below f n) (cond (f n) (Some n) None) h in
    ⊎_elim
    (λ below. first_below_none f n j earlier below)
    (λ above.
    let same : n ≡ j = omega arith in
    let P : ℕ → Type 0 = λ k. f k ≡ false in
    subst P same (first_below-step f n (first_below f n) earlier h))
    (cases_lt j n)

pub first_below_any : (f : ℕ → Bool) (n : ℕ) → first_below f n ≡ None → any_below f n ≡ false
first_below_any f n h = any_below_none f n (λ j lt. first_below_none f n j h lt)
