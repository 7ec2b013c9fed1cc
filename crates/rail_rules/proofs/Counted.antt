-- A list that completes names each train inside exactly as often as it has moves left.
use Rattle.std.proofs.Common.{◌≡◌, ℕ, suc, ◌+◌, ◌-◌, ◌<◌, ◌≤◌, true, ◌&&◌, cond, eqb, ltb, List, [], ◌∷◌, length, count_by, refl, sym, ap, ◌∙◌, subst, ⊎_elim, arith}
use Rattle.std.proofs.lemmas.Bool.{and_parts, and_from, and_right, cases_lt, cases_eq, ltb-true, lt-ltb, le-ltb, eq-eqb, ne_eqb, not-true, cond-true, cond-false}
use Rattle.std.proofs.lemmas.List.{get_or-set_same, get_or-set_other, get_or_past}
use Rattle.std.proofs.lemmas.List.Sums.{sum_by-cons}
use Rattle.rail_rules.specs.Moves.{Moves}
use Rattle.rail_rules.specs.Places.{place_of, is_inside, is_legal, after, nobody_inside, completes}
use Rattle.rail_rules.proofs.Below.{any_below_at}

-- how many moves a train inside has left, and 0 for another
left_of : ℕ → ℕ → ℕ
left_of n p = cond (ltb 0 p && ltb p n) (n - p) 0

left_of-inside : (n p : ℕ) → 0 < p → p < n → left_of n p ≡ n - p
unfolding left_of
left_of-inside n p low high = cond-true (ltb 0 p && ltb p n) (n - p) 0 (and_from (ltb 0 p) (ltb p n) (lt-ltb 0 p low) (lt-ltb p n high))

left_of-out : (n p : ℕ) → n ≤ p → left_of n p ≡ 0
unfolding left_of
left_of-out n p high = cond-false (ltb 0 p && ltb p n) (n - p) 0 (and_right (ltb 0 p) (ltb p n) (le-ltb p n high))

left_of-step : (n p : ℕ) → 0 < p → p < n → 1 + left_of n (suc p) ≡ left_of n p
left_of-step n p low high =
    ⊎_elim
    (λ more. omega (arith, left_of-inside n p low high, left_of-inside n (suc p) (omega arith) more))
    (λ last. omega (arith, left_of-inside n p low high, left_of-out n (suc p) last))
    (cases_lt (suc p) n)

-- which is what the law says
left_of-is : (plan : Moves) (s : List ℕ) (t : ℕ) → left_of (plan.moves t) (place_of s t) ≡ cond (is_inside plan s t) (plan.moves t - place_of s t) 0
unfolding left_of
left_of-is plan s t = refl

nobody_left : (plan : Moves) (s : List ℕ) (t : ℕ) → nobody_inside plan s ≡ true → left_of (plan.moves t) (place_of s t) ≡ 0
unfolding left_of
nobody_left plan s t nobody =
    ⊎_elim
    (λ lt. cond-false (is_inside plan s t) (plan.moves t - place_of s t) 0 (any_below_at (is_inside plan s) (length s) t (not-true _ nobody) lt))
    (λ past. ap (λ p. left_of (plan.moves t) p) (get_or_past s t 0 past))
    (cases_lt t (length s))

counted : (plan : Moves) (list s : List ℕ) (t : ℕ) → completes plan s list ≡ true → count_by (λ u. eqb u t) list ≡ left_of (plan.moves t) (place_of s t)
counted plan [] s t h = sym (nobody_left plan s t h)
counted plan (u ∷ rest) s t h =
    let parts = and_parts (is_inside plan s u && is_legal plan s u) (completes plan (after s u) rest) h in
    let first = and_parts (is_inside plan s u) (is_legal plan s u) parts.0 in
    let inside = and_parts (ltb 0 (place_of s u)) (ltb (place_of s u) (plan.moves u)) first.0 in
    let low : 0 < place_of s u = ltb-true 0 (place_of s u) inside.0 in
    let high : place_of s u < plan.moves u = ltb-true (place_of s u) (plan.moves u) inside.1 in
    let later = counted plan rest (after s u) t parts.1 in
    let fits : u < length s = ⊎_elim (λ lt. lt) (λ past. absurd (omega (arith, low, get_or_past s u 0 past))) (cases_lt u (length s)) in
    sum_by-cons (λ v. cond (eqb v t) 1 0) u rest ∙
    ⊎_elim
    (λ same.
    let P : ℕ → Type 0 = λ k. cond (eqb u k) 1 0 + count_by (λ v. eqb v k) rest ≡ left_of (plan.moves k) (place_of s k) in
    let counted_u : count_by (λ v. eqb v u) rest ≡ left_of (plan.moves u) (suc (place_of s u)) =
    counted plan rest (after s u) u parts.1 ∙ ap (λ p. left_of (plan.moves u) p) (get_or-set_same s u (suc (place_of s u)) 0 fits) in
    subst P same (ap (λ n. n + count_by (λ v. eqb v u) rest) (cond-true (eqb u u) 1 0 (eq-eqb u u refl))
    ∙ ap (λ n. 1 + n) counted_u ∙ left_of-step (plan.moves u) (place_of s u) low high))
    (λ other.
    ap (λ n. n + count_by (λ v. eqb v t) rest) (cond-false (eqb u t) 1 0 (ne_eqb u t other))
    ∙ omega (arith, later ∙ ap (λ p. left_of (plan.moves t) p) (get_or-set_other s u t (suc (place_of s u)) 0 (λ e. other (sym e)))))
    (cases_eq u t)

pub completing_list_counts : (plan : Moves) (s list : List ℕ) (t : ℕ) → completes plan s list ≡ true → count_by (λ u. eqb u t) list ≡ cond (is_inside plan s t) (plan.moves t - place_of s t) 0
completing_list_counts plan s list t h = counted plan list s t h ∙ left_of-is plan s t
