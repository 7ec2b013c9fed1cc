-- The last move that claims a section: one move more, and what it says of the moves before and after it.
use Rattle.std.proofs.Common.{◌≡◌, ℕ, zero, suc, ◌+◌, ◌<◌, ◌≤◌, Bool, true, false, ◌&&◌, ◌||◌, ltb, leb, List, [], length, get_or, sym, ap, ◌∙◌, ⊎_elim, arith}
use Rattle.std.proofs.lemmas.Bool.{and_from, and_left, and_right, cases_Bool, cases_lt, cond-true, cond-false, lt-ltb, le-ltb, le-leb, lt-leb}
use Rattle.rail_base.specs.declared.limits.TheConstants.{SECTIONS}
use Rattle.rail_rules.specs.Numbers.{any_below, is_in}
use Rattle.rail_rules.proofs.CallerLemmas.{any_below_from, any_below_none}
use Rattle.rail_place.specs.Lasts.{last_below}
use Rattle.rail_place.specs.Owners.{given}
use Rattle.rail_place.proofs.Giving.{given-named, given-other}

-- one move more, whose sections are noted
pub noted_on : (claims : List (List ℕ)) (lasts sections : List ℕ) (n : ℕ) → length lasts ≡ SECTIONS
    → ((x : ℕ) → x < SECTIONS → get_or lasts x 0 ≡ last_below (λ m. is_in x (get_or claims m [])) n)
    → sections ≡ get_or claims n []
    → (x : ℕ) → x < SECTIONS → get_or (given lasts sections (n + 1)) x 0 ≡ last_below (λ m. is_in x (get_or claims m [])) (n + 1)
noted_on claims lasts sections n wide told here x lt =
    let test : ℕ → Bool = λ m. is_in x (get_or claims m []) in
    let next : n + 1 ≡ suc n = omega arith in
    ⊎_elim
    (λ is.
    given-named lasts sections (n + 1) 0 x is (omega (arith, wide))
    ∙ next
    ∙ sym (cond-true (test n) (suc n) (last_below test n) (ap (is_in x) (sym here) ∙ is))
    ∙ ap (last_below test) (sym next))
    (λ out.
    given-other lasts sections (n + 1) 0 x out
    ∙ told x lt
    ∙ sym (cond-false (test n) (suc n) (last_below test n) (ap (is_in x) (sym here) ∙ out))
    ∙ ap (last_below test) (sym next))
    (cases_Bool (is_in x sections))

-- going back by a move, whose sections are noted
pub noted_back : (claims : List (List ℕ)) (firsts sections : List ℕ) (n : ℕ) → length firsts ≡ SECTIONS
    → ((m x : ℕ) → suc n ≤ m → x < SECTIONS → suc m < get_or firsts x 0 → is_in x (get_or claims m []) ≡ false)
    → sections ≡ get_or claims n []
    → (m x : ℕ) → n ≤ m → x < SECTIONS → suc m < get_or (given firsts sections (suc n)) x 0 → is_in x (get_or claims m []) ≡ false
noted_back claims firsts sections n wide none here m x from lt below =
    ⊎_elim
    (λ is. absurd (omega (arith, from, below, given-named firsts sections (suc n) 0 x is (omega (arith, wide, lt)))))
    (λ out.
    ⊎_elim
    (λ later. none m x later lt (omega (arith, below, given-other firsts sections (suc n) 0 x out)))
    (λ same.
    let at : m ≡ n = omega (arith, from, same) in
    ap (λ k. is_in x (get_or claims k [])) at ∙ ap (is_in x) (sym here) ∙ out)
    (cases_lt n m))
    (cases_Bool (is_in x sections))

-- no number from it on passes
pub past_last : (test : ℕ → Bool) (n m : ℕ) → last_below test n ≤ m → m < n → test m ≡ false
past_last test zero m past lt = absurd (omega arith)
past_last test (suc n) m past lt =
    ⊎_elim
    (λ is. absurd (omega (arith, cond-true (test n) (suc n) (last_below test n) is, past, lt)))
    (λ out.
    ⊎_elim
    (λ earlier. past_last test n m (omega (arith, cond-false (test n) (suc n) (last_below test n) out, past)) earlier)
    (λ here. let same : m ≡ n = omega arith in ap test same ∙ out)
    (cases_lt m n))
    (cases_Bool (test n))

-- the number before it passes
last_passes : (test : ℕ → Bool) (n p : ℕ) → p < last_below test n → any_below (λ m. leb p m && test m) n ≡ true
last_passes test zero p lt = absurd (omega arith)
last_passes test (suc n) p lt =
    let later : ℕ → Bool = λ m. leb p m && test m in
    ⊎_elim
    (λ is.
    any_below_from later (suc n) n (omega arith)
    (and_from (leb p n) (test n) (le-leb p n (omega (arith, lt, cond-true (test n) (suc n) (last_below test n) is))) is))
    (λ out.
    ap (λ b. b || later n) (last_passes test n p (omega (arith, lt, cond-false (test n) (suc n) (last_below test n) out))))
    (cases_Bool (test n))

-- some number from p on passes exactly where p lies before it
pub left_is : (test : ℕ → Bool) (n p : ℕ) → ltb p (last_below test n) ≡ any_below (λ m. leb p m && test m) n
left_is test n p =
    ⊎_elim
    (λ before. lt-ltb p (last_below test n) before ∙ sym (last_passes test n p before))
    (λ past.
    le-ltb p (last_below test n) past
    ∙ sym (any_below_none (λ m. leb p m && test m) n (λ m below.
    ⊎_elim
    (λ earlier. and_left (leb p m) (test m) (lt-leb p m earlier))
    (λ from. and_right (leb p m) (test m) (past_last test n m (omega (arith, past, from)) below))
    (cases_lt m p))))
    (cases_lt p (last_below test n))
