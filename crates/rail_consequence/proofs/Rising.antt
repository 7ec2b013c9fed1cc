-- Lists of numbers that rise, with one more or without one.
use Rattle.std.proofs.Common.{◌≡◌, ℕ, zero, suc, ◌+◌, ◌-◌, ◌<◌, ◌≤◌, false, not, ◌&&◌, ◌||◌, ◌==◌, eqb, List, ◌∷◌, length, get_or, refl, sym, ap, ◌∙◌, subst, ⊎_elim, arith}
use Rattle.std.proofs.lemmas.Bool.{cases_eq, cases_lt, eq-eqb, ne_eqb}
use Rattle.std.proofs.lemmas.List.Edits.{length-insert, get_or-insert_at, get_or-insert_above, get_or-insert_below, length-remove, get_or-remove_above, get_or-remove_below}
use Rattle.std.proofs.lemmas.List.Folds.{list_any_none}
use Rattle.std.proofs.lemmas.List.Kept.{AllPairs-from_increasing}
use Rattle.std.proofs.lemmas.List.Quantifiers.{all_pairs_remove}
use Rattle.std.proofs.lemmas.List.Sorted.{IsPermutation-insert, IsPermutation-remove, list_any-IsPermutation}
use Rattle.std.proofs.lemmas.Grind.{get_or_default_zero}
use Rattle.std.specs.List.{All, AllPairs, insert, remove}
use Rattle.std.specs.List.Sorted.{IsStrictlyIncreasing}
use Rattle.rail_rules.specs.Numbers.{is_in}

-- whether two numbers are the same, either way round
same_back : (a b : ℕ) → eqb a b ≡ eqb b a
same_back a b = ⊎_elim (λ same. eq-eqb a b same ∙ sym (eq-eqb b a (sym same))) (λ ne. ne_eqb a b ne ∙ sym (ne_eqb b a (λ e. ne (sym e)))) (cases_eq a b)

rises_from : (xs : List ℕ) → AllPairs (λ x y. x < y) xs → (k : ℕ) → k < length xs → k ≤ get_or xs k 0
rises_from xs rising zero lt = omega arith
rises_from xs rising (suc k) lt = omega (arith, rises_from xs rising k (omega arith), rising k (suc k) 0 (omega arith) lt)

-- numbers that rise below a bound are no more than the bound
pub few_rising : (xs : List ℕ) (n : ℕ) → IsStrictlyIncreasing xs → All (λ t. t < n) xs → length xs ≤ n
few_rising xs n rising below =
    ⊎_elim
    (λ more. absurd (omega (arith, rises_from xs (AllPairs-from_increasing xs rising) n more, below n 0 more)))
    (λ le. le)
    (cases_lt n (length xs))

-- all numbers before the place are less than the number, and those from there on are greater
pub record IsPositionFor (xs : List ℕ) (t p : ℕ) : Type 0 where
  pub bound : p ≤ length xs
  pub front : (k d : ℕ) → k < p → get_or xs k d < t
  pub back : (k d : ℕ) → p ≤ k → k < length xs → t < get_or xs k d

module _ (xs : List ℕ) (t p : ℕ) (rising : IsStrictlyIncreasing xs) where
  -- the first number from there on is greater
  pub position_from : p ≤ length xs → ((k d : ℕ) → k < p → get_or xs k d < t) → ((d : ℕ) → p < length xs → t < get_or xs p d) → IsPositionFor xs t p
  position_from bound front here = record {
    bound = bound;
    front = front;
    back = λ k d from lt.
        ⊎_elim
        (λ same. subst (λ i. t < get_or xs i d) (sym same) (here d (omega (arith, same, lt))))
        (λ ne. omega (arith, here d (omega (arith, from, lt)), AllPairs-from_increasing xs rising p k d (omega (arith, from, ne)) lt))
        (cases_eq k p);
  }

module _ (xs : List ℕ) (t p : ℕ) (place : IsPositionFor xs t p) where
  pub not_placed : is_in t xs ≡ false
  not_placed =
      list_any_none (λ y. eqb y t) xs
      (λ k d lt.
      ne_eqb (get_or xs k d) t
      (λ same.
      ⊎_elim
      (λ before. absurd (omega (arith, place.front k d before, same)))
      (λ after. absurd (omega (arith, place.back k d after lt, same)))
      (cases_lt k p)))

  pub in_insert : (u : ℕ) → is_in u (insert xs p t) ≡ ((u == t) || is_in u xs)
  in_insert u =
      sym (list_any-IsPermutation (λ y. eqb y u) (t ∷ xs) (insert xs p t) (IsPermutation-insert xs p t))
      ∙ ap (λ b. b || is_in u xs) (same_back t u)

  -- what stands at a place of the longer list
  below_at : (i d : ℕ) → i < p → get_or (insert xs p t) i d ≡ get_or xs i d
  below_at i d lt = get_or-insert_below xs p t d i lt place.bound

  above_at : (j d : ℕ) → p ≤ j → get_or (insert xs p t) (j + 1) d ≡ get_or xs j d
  above_at j d le = get_or-insert_above xs p t d j le place.bound

  here_at : (j d : ℕ) → j ≡ p → get_or (insert xs p t) j d ≡ t
  here_at j d same = ap (λ k. get_or (insert xs p t) k d) same ∙ get_or-insert_at xs p t d place.bound

  later_at : (k j d : ℕ) → k ≡ j + 1 → p ≤ j → get_or (insert xs p t) k d ≡ get_or xs j d
  later_at k j d same le = ap (λ i. get_or (insert xs p t) i d) same ∙ above_at j d le

  pub rising_insert : IsStrictlyIncreasing xs → IsStrictlyIncreasing (insert xs p t)
  rising_insert rising k within =
      let long = length-insert xs p t place.bound in
      ⊎_elim
      (λ before.
      ⊎_elim
      (λ next. rw (below_at k 0 before, here_at (k + 1) 0 next) (place.front k 0 before))
      (λ ne. rw (below_at k 0 before, below_at (k + 1) 0 (omega (arith, before, ne))) (rising k (omega (arith, before, ne, place.bound))))
      (cases_eq (k + 1) p))
      (λ from.
      ⊎_elim
      (λ same. rw (here_at k 0 same, above_at k 0 from) (place.back k 0 from (omega (arith, within, long))))
      (λ ne.
      let e : k ≡ (k - 1) + 1 = omega (arith, from, ne) in
      rw (later_at k (k - 1) 0 e (omega (arith, from, ne)), later_at (k + 1) k 0 refl from)
      (omega (arith, AllPairs-from_increasing xs rising (k - 1) k 0 (omega (arith, from, ne)) (omega (arith, within, long)))))
      (cases_eq k p))
      (cases_lt k p)

  pub below_insert : (n : ℕ) → t < n → All (λ u. u < n) xs → All (λ u. u < n) (insert xs p t)
  below_insert n lt all k d within =
      let long = length-insert xs p t place.bound in
      ⊎_elim
      (λ before. rw (below_at k d before) (all k d (omega (arith, before, place.bound))))
      (λ from.
      ⊎_elim
      (λ same. rw (here_at k d same) lt)
      (λ ne. rw (later_at k (k - 1) d (omega (arith, from, ne)) (omega (arith, from, ne))) (all (k - 1) d (omega (arith, within, long, from, ne))))
      (cases_eq k p))
      (cases_lt k p)

  -- so there is room for one more below a bound
  pub room_for_one : (n : ℕ) → t < n → IsStrictlyIncreasing xs → All (λ u. u < n) xs → length xs < n
  room_for_one n lt rising all =
      omega (arith, length-insert xs p t place.bound, few_rising (insert xs p t) n (rising_insert rising) (below_insert n lt all))

module _ (xs : List ℕ) (t p : ℕ) (lt : p < length xs) where
  gone : IsStrictlyIncreasing xs → get_or xs p 0 ≡ t → is_in t (remove xs p) ≡ false
  gone rising here =
      let pairs = AllPairs-from_increasing xs rising in
      let long = length-remove xs p lt in
      list_any_none (λ y. eqb y t) (remove xs p)
      (λ k d within.
      ne_eqb (get_or (remove xs p) k d) t
      (λ same.
      ⊎_elim
      (λ before. absurd (omega (arith, get_or-remove_below xs p d k before lt, pairs k p d before lt, get_or_default_zero xs p d lt, here, same)))
      (λ from. absurd (omega (arith, get_or-remove_above xs p d k from lt, pairs p (k + 1) d (omega arith) (omega (arith, within, long)), get_or_default_zero xs p d lt, here, same)))
      (cases_lt k p)))

  pub in_remove : IsStrictlyIncreasing xs → get_or xs p 0 ≡ t → (u : ℕ) → is_in u (remove xs p) ≡ (not (u == t) && is_in u xs)
  in_remove rising here u =
      let again : is_in u xs ≡ (eqb t u || is_in u (remove xs p)) = list_any-IsPermutation (λ y. eqb y u) xs (t ∷ remove xs p) (IsPermutation-remove xs p t lt (sym here ∙ sym (get_or_default_zero xs p t lt))) in
      ⊎_elim
      (λ same. ap (λ v. is_in v (remove xs p)) same ∙ gone rising here ∙ ap (λ b. not b && is_in u xs) (sym (eq-eqb u t same)))
      (λ ne. ap (λ b. b || is_in u (remove xs p)) (sym (ne_eqb t u (λ e. ne (sym e)))) ∙ sym again ∙ ap (λ b. not b && is_in u xs) (sym (ne_eqb u t ne)))
      (cases_eq u t)

  pub rising_remove : IsStrictlyIncreasing xs → IsStrictlyIncreasing (remove xs p)
  rising_remove rising k within = all_pairs_remove (λ x y. x < y) xs p lt (AllPairs-from_increasing xs rising) k (k + 1) 0 (omega arith) within

  pub below_remove : (n : ℕ) → All (λ u. u < n) xs → All (λ u. u < n) (remove xs p)
  below_remove n all k d within =
      let long = length-remove xs p lt in
      ⊎_elim
      (λ before. omega (arith, get_or-remove_below xs p d k before lt, all k d (omega (arith, before, lt))))
      (λ from. omega (arith, get_or-remove_above xs p d k from lt, all (k + 1) d (omega (arith, within, long))))
      (cases_lt k p)

-- a number that doesn't stand in the list may be taken out
pub in_absent : (xs : List ℕ) (t : ℕ) → is_in t xs ≡ false → (u : ℕ) → is_in u xs ≡ (not (u == t) && is_in u xs)
in_absent xs t none u =
    ⊎_elim
    (λ same. ap (λ v. is_in v xs) same ∙ none ∙ ap (λ b. not b && is_in u xs) (sym (eq-eqb u t same)))
    (λ ne. ap (λ b. not b && is_in u xs) (sym (ne_eqb u t ne)))
    (cases_eq u t)
