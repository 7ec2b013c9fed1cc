-- Counting entries.
use Rattle.std.proofs.Common.{◌≡◌, ℕ, zero, suc, ◌+◌, ◌<◌, ◌≤◌, Bool, true, false, not, ◌&&◌, cond, List, [], ◌∷◌, ◌++◌, refl, sym, ap, ◌∙◌, ⊎_elim, arith}
use Rattle.std.specs.List.{list_any, filter}
use Rattle.std.proofs.lemmas.Bool.{and_from, and_left, and_right, or_left, or_right, or_cases, cases_Bool, false≢true, cond-true, cond-false, not_from_true, not_from_false}
use Rattle.rail_base.specs.declared.history.Entry.{Entry}
use Rattle.rail_rules.specs.Numbers.{gather}
use Rattle.rail_laws_events.specs.Accounts.{tally}

pub tally-cons_yes : (p : Entry → Bool) (e : Entry) (es : List Entry) → p e ≡ true → tally p (e ∷ es) ≡ suc (tally p es)
tally-cons_yes p e es h = ap (λ n. n + tally p es) (cond-true (p e) 1 0 h) ∙ omega arith

pub tally-cons_no : (p : Entry → Bool) (e : Entry) (es : List Entry) → p e ≡ false → tally p (e ∷ es) ≡ tally p es
tally-cons_no p e es h = ap (λ n. n + tally p es) (cond-false (p e) 1 0 h) ∙ omega arith

pub tally-append : (p : Entry → Bool) (xs ys : List Entry) → tally p (xs ++ ys) ≡ tally p xs + tally p ys
tally-append p [] ys = omega arith
tally-append p (x ∷ xs) ys = omega (arith, tally-append p xs ys)

pub tally-none : (p : Entry → Bool) (xs : List Entry) → list_any p xs ≡ false → tally p xs ≡ 0
tally-none p [] h = refl
tally-none p (x ∷ xs) h =
    ⊎_elim
    (λ here. absurd (false≢true (sym h ∙ or_left (p x) (list_any p xs) here)))
    (λ not_here. ⊎_elim
    (λ later. absurd (false≢true (sym h ∙ or_right (p x) (list_any p xs) later)))
    (λ not_later. tally-cons_no p x xs not_here ∙ tally-none p xs not_later)
    (cases_Bool (list_any p xs)))
    (cases_Bool (p x))

pub tally-some : (p : Entry → Bool) (xs : List Entry) → list_any p xs ≡ true → 0 < tally p xs
tally-some p [] h = absurd (false≢true h)
tally-some p (x ∷ xs) h =
    ⊎_elim
    (λ here. omega (arith, tally-cons_yes p x xs here))
    (λ later. omega (arith, tally-some p xs later))
    (or_cases (p x) (list_any p xs) h)

pub some-tally : (p : Entry → Bool) (xs : List Entry) → 0 < tally p xs → list_any p xs ≡ true
some-tally p xs h = ⊎_elim (λ some. some) (λ none. absurd (omega (arith, tally-none p xs none))) (cases_Bool (list_any p xs))

-- at most one of two lists has one
pub tally-append_one : (p : Entry → Bool) (xs ys : List Entry) → tally p xs ≤ 1 → tally p ys ≤ 1 → (list_any p xs ≡ true → list_any p ys ≡ true → ⊥) → tally p (xs ++ ys) ≤ 1
tally-append_one p xs ys hx hy apart =
    ⊎_elim
    (λ some_x. ⊎_elim
    (λ some_y. absurd (apart some_x some_y))
    (λ none_y. omega (arith, tally-append p xs ys, tally-none p ys none_y))
    (cases_Bool (list_any p ys)))
    (λ none_x. omega (arith, tally-append p xs ys, tally-none p xs none_x))
    (cases_Bool (list_any p xs))

pub gather_some : (p : Entry → Bool) (f : ℕ → List Entry) (n : ℕ) → list_any p (gather f n) ≡ true → (i : ℕ) × (i < n) × (list_any p (f i) ≡ true)
gather_some p f zero h = absurd (false≢true h)
gather_some p f (suc n) h =
    let more = some-tally p (gather f n) in
    ⊎_elim
    (λ earlier. let found = gather_some p f n earlier in (found.0, omega (arith, found.1), found.2))
    (λ not_earlier.
    (n, omega arith, some-tally p (f n) (omega (arith, tally-append p (gather f n) (f n), tally-some p (gather f n ++ f n) h, tally-none p (gather f n) not_earlier))))
    (cases_Bool (list_any p (gather f n)))

-- at most one of gathered lists has one
pub tally-gather_one : (p : Entry → Bool) (f : ℕ → List Entry) (n : ℕ) → ((i : ℕ) → i < n → tally p (f i) ≤ 1) → ((i k : ℕ) → i < n → k < n → list_any p (f i) ≡ true → list_any p (f k) ≡ true → i ≡ k) → tally p (gather f n) ≤ 1
tally-gather_one p f zero each apart = omega arith
tally-gather_one p f (suc n) each apart =
    tally-append_one p (gather f n) (f n)
    (tally-gather_one p f n (λ i lt. each i (omega arith)) (λ i k li lk. apart i k (omega arith) (omega arith)))
    (each n (omega arith))
    (λ earlier last.
    let found = gather_some p f n earlier in
    omega (arith, found.1, apart found.0 n (omega (arith, found.1)) (omega arith) found.2 last))

-- a list splits into what passes a test and what doesn't
pub tally-split : (p q : Entry → Bool) (xs : List Entry) → tally p (filter q xs) + tally p (filter (λ e. not (q e)) xs) ≡ tally p xs
tally-split p q [] = refl
tally-split p q (x ∷ xs) =
    let yes_list : List Entry = filter q xs in
    let no_list : List Entry = filter (λ e. not (q e)) xs in
    ⊎_elim
    (λ is.
    let front : filter q (x ∷ xs) ≡ x ∷ yes_list = cond-true (q x) (x ∷ yes_list) yes_list is in
    let back : filter (λ e. not (q e)) (x ∷ xs) ≡ no_list = cond-false (not (q x)) (x ∷ no_list) no_list (not_from_true (q x) is) in
    omega (arith, ap (tally p) front, ap (tally p) back, tally-split p q xs))
    (λ isnt.
    let front : filter q (x ∷ xs) ≡ yes_list = cond-false (q x) (x ∷ yes_list) yes_list isnt in
    let back : filter (λ e. not (q e)) (x ∷ xs) ≡ x ∷ no_list = cond-true (not (q x)) (x ∷ no_list) no_list (not_from_false (q x) isnt) in
    omega (arith, ap (tally p) front, ap (tally p) back, tally-split p q xs))
    (cases_Bool (q x))

-- a tally of what passes is one of both tests
pub tally-filter : (p q : Entry → Bool) (xs : List Entry) → tally p (filter q xs) ≡ tally (λ e. q e && p e) xs
tally-filter p q [] = refl
tally-filter p q (x ∷ xs) =
    ⊎_elim
    (λ is.
    ap (tally p) (cond-true (q x) (x ∷ filter q xs) (filter q xs) is)
    ∙ ⊎_elim
    (λ yes_p. tally-cons_yes p x (filter q xs) yes_p ∙ ap suc (tally-filter p q xs) ∙ sym (tally-cons_yes (λ e. q e && p e) x xs (and_from (q x) (p x) is yes_p)))
    (λ no_p. tally-cons_no p x (filter q xs) no_p ∙ tally-filter p q xs ∙ sym (tally-cons_no (λ e. q e && p e) x xs (and_right (q x) (p x) no_p)))
    (cases_Bool (p x)))
    (λ isnt.
    ap (tally p) (cond-false (q x) (x ∷ filter q xs) (filter q xs) isnt)
    ∙ tally-filter p q xs ∙ sym (tally-cons_no (λ e. q e && p e) x xs (and_left (q x) (p x) isnt)))
    (cases_Bool (q x))

pub tally-same : (p q : Entry → Bool) (xs : List Entry) → ((e : Entry) → p e ≡ q e) → tally p xs ≡ tally q xs
tally-same p q [] h = refl
tally-same p q (x ∷ xs) h = λ i. cond (h x i) 1 0 + tally-same p q xs h i

pub tally-le : (p q : Entry → Bool) (xs : List Entry) → ((e : Entry) → p e ≡ true → q e ≡ true) → tally p xs ≤ tally q xs
tally-le p q [] h = omega arith
tally-le p q (x ∷ xs) h =
    ⊎_elim
    (λ is. omega (arith, tally-cons_yes p x xs is, tally-cons_yes q x xs (h x is), tally-le p q xs h))
    (λ isnt. omega (arith, tally-cons_no p x xs isnt, tally-le p q xs h))
    (cases_Bool (p x))
