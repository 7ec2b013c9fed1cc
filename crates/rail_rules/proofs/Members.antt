-- Numbers in lists.
use Rattle.std.proofs.Common.{◌≡◌, ℕ, Bool, true, false, eqb, List, [], ◌∷◌, refl, sym, ◌∙◌, subst, ⊎_elim}
use Rattle.std.proofs.lemmas.Bool.{or_parts, or_from, or_cases, or_left, or_right, and_parts, false≢true, eqb-true, eq-eqb, not-true, not_from_false, cases_Bool}
use Rattle.std.specs.List.{list_any, list_all}
use Rattle.rail_rules.specs.Numbers.{is_in, are_apart}

pub is_in-head : (x : ℕ) (xs : List ℕ) → is_in x (x ∷ xs) ≡ true
is_in-head x xs = or_left (eqb x x) (is_in x xs) (eq-eqb x x refl)

pub list_any_at : (p : ℕ → Bool) (xs : List ℕ) (x : ℕ) → list_any p xs ≡ false → is_in x xs ≡ true → p x ≡ false
list_any_at p [] x none is = absurd (false≢true is)
list_any_at p (y ∷ ys) x none is =
    let parts = or_parts (p y) (list_any p ys) none in
    ⊎_elim
    (λ same. let P : ℕ → Type 0 = λ k. p k ≡ false in subst P (eqb-true y x same) parts.0)
    (λ later. list_any_at p ys x parts.1 later)
    (or_cases (eqb y x) (is_in x ys) is)

pub list_any_none : (p : ℕ → Bool) (xs : List ℕ) → ((x : ℕ) → is_in x xs ≡ true → p x ≡ false) → list_any p xs ≡ false
list_any_none p [] h = refl
list_any_none p (y ∷ ys) h =
    or_from (p y) (list_any p ys) (h y (is_in-head y ys)) (list_any_none p ys (λ x is. h x (or_right (eqb y x) (is_in x ys) is)))

pub list_all_at : (p : ℕ → Bool) (xs : List ℕ) (x : ℕ) → list_all p xs ≡ true → is_in x xs ≡ true → p x ≡ true
list_all_at p [] x all is = absurd (false≢true is)
list_all_at p (y ∷ ys) x all is =
    let parts = and_parts (p y) (list_all p ys) all in
    ⊎_elim
    (λ same. let P : ℕ → Type 0 = λ k. p k ≡ true in subst P (eqb-true y x same) parts.0)
    (λ later. list_all_at p ys x parts.1 later)
    (or_cases (eqb y x) (is_in x ys) is)

pub apart_at : (xs ys : List ℕ) (x : ℕ) → are_apart xs ys ≡ true → is_in x xs ≡ true → is_in x ys ≡ false
apart_at xs ys x apart is = list_any_at (λ z. is_in z ys) xs x (not-true (list_any (λ z. is_in z ys) xs) apart) is

pub apart_from : (xs ys : List ℕ) → ((x : ℕ) → is_in x xs ≡ true → is_in x ys ≡ false) → are_apart xs ys ≡ true
apart_from xs ys h = not_from_false (list_any (λ z. is_in z ys) xs) (list_any_none (λ z. is_in z ys) xs h)

pub apart_sym : (xs ys : List ℕ) → are_apart xs ys ≡ true → are_apart ys xs ≡ true
apart_sym xs ys apart =
    apart_from ys xs (λ x in_ys.
    ⊎_elim
    (λ in_xs. absurd (false≢true (sym (apart_at xs ys x apart in_xs) ∙ in_ys)))
    (λ out. out)
    (cases_Bool (is_in x xs)))
