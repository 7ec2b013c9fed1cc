-- A list without its first item that passes a test.
use Rattle.std.proofs.Common.{◌≡◌, ℕ, ◌+◌, ◌≤◌, Bool, true, false, cond, not, ◌&&◌, ◌||◌, List, [], ◌∷◌, ◌++◌, length, count_by, nat_lt, Some, None, refl, sym, ap, ◌∙◌, arith}
use Rattle.std.specs.List.{find, list_any, list_all}
use Rattle.std.proofs.lemmas.List.Sums.{sum_by-cons}
use Rattle.std.proofs.lemmas.Bool.Decides.{nat_tests}
use Rattle.rail_base.specs.Lists.{are_distinct}
use Rattle.rail_track.specs.Lists.{without}
use Rattle.std.proofs.lemmas.List.Folds.{list_any-append}

pub count_by-cons : {X : Type 0} (p : X → Bool) (x : X) (xs : List X) → count_by p (x ∷ xs) ≡ cond (p x) 1 0 + count_by p xs
count_by-cons p x xs = sum_by-cons (λ y. cond (p y) 1 0) x xs

module _ {X : Type 0} (p : X → Bool) where
  pub without-absent : (xs : List X) → find p xs ≡ None → without p xs ≡ xs
  without-absent [] none = refl
  without-absent (x ∷ xs) none = by (p x) (without-absent xs) none
    where
      by : (b : Bool) → (find p xs ≡ None → without p xs ≡ xs) → cond b (Some x) (find p xs) ≡ None → cond b xs (x ∷ without p xs) ≡ x ∷ xs
      by true rest none = cc
      by false rest none = ap (λ ys. x ∷ ys) (rest none)

  pub find_passes : (q : X → Bool) (xs : List X) (y : X) → list_all q xs ≡ true → find p xs ≡ Some y → q y ≡ true
  find_passes q [] y all found = cc
  find_passes q (x ∷ xs) y all found = by (p x) (q x) refl (find_passes q xs y) all found
    where
      by : (b c : Bool) → q x ≡ c → (list_all q xs ≡ true → find p xs ≡ Some y → q y ≡ true) → (c && list_all q xs) ≡ true → cond b (Some x) (find p xs) ≡ Some y → q y ≡ true
      by true true is rest all found = let same : x ≡ y = cc in sym (ap q same) ∙ is
      by false true is rest all found = rest all found
      by b false is rest all found = cc

  -- the item that is taken out counts no more
  pub count_by-without : (q : X → Bool) (xs : List X) (y : X) → find p xs ≡ Some y → count_by q (without p xs) + cond (q y) 1 0 ≡ count_by q xs
  count_by-without q [] y found = cc
  count_by-without q (x ∷ xs) y found = by (p x) (count_by-without q xs y) found
    where
      by : (b : Bool) → (find p xs ≡ Some y → count_by q (without p xs) + cond (q y) 1 0 ≡ count_by q xs) → cond b (Some x) (find p xs) ≡ Some y → count_by q (cond b xs (x ∷ without p xs)) + cond (q y) 1 0 ≡ count_by q (x ∷ xs)
      by true rest found =
          let same : x ≡ y = cc in
          omega (arith, count_by-cons q x xs, ap {B = ℕ} (λ z. cond (q z) 1 0) same)
      by false rest found = omega (arith, count_by-cons q x xs, count_by-cons q x (without p xs), rest found)

  pub count_by-without-le : (q : X → Bool) (xs : List X) → count_by q (without p xs) ≤ count_by q xs
  count_by-without-le q [] = omega arith
  count_by-without-le q (x ∷ xs) = by (p x) (count_by-without-le q xs)
    where
      by : (b : Bool) → count_by q (without p xs) ≤ count_by q xs → count_by q (cond b xs (x ∷ without p xs)) ≤ count_by q (x ∷ xs)
      by true rest = omega (arith, count_by-cons q x xs)
      by false rest = omega (arith, count_by-cons q x xs, count_by-cons q x (without p xs))

  pub length-without-le : (xs : List X) → length (without p xs) ≤ length xs
  length-without-le [] = omega arith
  length-without-le (x ∷ xs) = by (p x) (length-without-le xs)
    where
      by : (b : Bool) → length (without p xs) ≤ length xs → length (cond b xs (x ∷ without p xs)) ≤ length (x ∷ xs)
      by true rest = omega arith
      by false rest = omega arith

  -- what holds of all items holds of all that are left
  pub list_all-without : (q : X → Bool) (xs : List X) → list_all q xs ≡ true → list_all q (without p xs) ≡ true
  list_all-without q [] all = refl
  list_all-without q (x ∷ xs) all = by (p x) (q x) refl (list_all-without q xs) all
    where
      by : (b c : Bool) → q x ≡ c → (list_all q xs ≡ true → list_all q (without p xs) ≡ true) → (c && list_all q xs) ≡ true → list_all q (cond b xs (x ∷ without p xs)) ≡ true
      by true true is rest all = all
      by false true is rest all = λ i. is i && rest all i
      by b false is rest all = cc

  -- what holds of no item holds of none that is left
  pub list_any-without : (q : X → Bool) (xs : List X) → list_any q xs ≡ false → list_any q (without p xs) ≡ false
  list_any-without q [] none = refl
  list_any-without q (x ∷ xs) none = by (p x) (q x) refl (list_any-without q xs) none
    where
      by : (b c : Bool) → q x ≡ c → (list_any q xs ≡ false → list_any q (without p xs) ≡ false) → (c || list_any q xs) ≡ false → list_any q (cond b xs (x ∷ without p xs)) ≡ false
      by true false is rest none = none
      by false false is rest none = λ i. is i || rest none i
      by b true is rest none = cc

-- whether an item passes, by the number of those that do
pub count_by_none : {X : Type 0} (p : X → Bool) (xs : List X) → list_any p xs ≡ false → count_by p xs ≡ 0
count_by_none p [] none = refl
count_by_none p (x ∷ xs) none = by (p x) refl (count_by_none p xs) none
  where
    by : (b : Bool) → p x ≡ b → (list_any p xs ≡ false → count_by p xs ≡ 0) → (b || list_any p xs) ≡ false → count_by p (x ∷ xs) ≡ 0
    by true is rest none = cc
    by false is rest none = omega (arith, count_by-cons p x xs, ap {B = ℕ} (λ b. cond b 1 0) is, rest none)

pub count_by_some : {X : Type 0} (p : X → Bool) (xs : List X) → list_any p xs ≡ true → 1 ≤ count_by p xs
count_by_some p [] some = cc
count_by_some p (x ∷ xs) some = by (p x) refl (count_by_some p xs) some
  where
    by : (b : Bool) → p x ≡ b → (list_any p xs ≡ true → 1 ≤ count_by p xs) → (b || list_any p xs) ≡ true → 1 ≤ count_by p (x ∷ xs)
    by true is rest some = omega (arith, count_by-cons p x xs, ap {B = ℕ} (λ b. cond b 1 0) is)
    by false is rest some = omega (arith, count_by-cons p x xs, rest some)

-- items that are apart stay so
pub are_distinct-without : {X : Type 0} (alike : X → X → Bool) (p : X → Bool) (xs : List X) → are_distinct alike xs ≡ true → are_distinct alike (without p xs) ≡ true
are_distinct-without alike p [] d = refl
are_distinct-without alike p (x ∷ xs) d = by (p x) (list_any (alike x) xs) refl (are_distinct-without alike p xs) d
  where
    by : (b c : Bool) → list_any (alike x) xs ≡ c → (are_distinct alike xs ≡ true → are_distinct alike (without p xs) ≡ true) → (not c && are_distinct alike xs) ≡ true → are_distinct alike (cond b xs (x ∷ without p xs)) ≡ true
    by b true is rest d = cc
    by true false is rest d = d
    by false false is rest d = λ i. not (list_any-without p (alike x) xs is i) && rest d i

pub are_distinct-push : {X : Type 0} (alike : X → X → Bool) → ((x y : X) → alike x y ≡ alike y x) → (xs : List X) (y : X) → are_distinct alike xs ≡ true → list_any (alike y) xs ≡ false → are_distinct alike (xs ++ y ∷ []) ≡ true
are_distinct-push alike both [] y d fresh = refl
are_distinct-push alike both (x ∷ xs) y d fresh = by (list_any (alike x) xs) (alike y x) refl refl (are_distinct-push alike both xs y) d fresh
  where
    by : (b c : Bool) → list_any (alike x) xs ≡ b → alike y x ≡ c
        → (are_distinct alike xs ≡ true → list_any (alike y) xs ≡ false → are_distinct alike (xs ++ y ∷ []) ≡ true)
        → (not b && are_distinct alike xs) ≡ true → (c || list_any (alike y) xs) ≡ false → are_distinct alike ((x ∷ xs) ++ y ∷ []) ≡ true
    by true c none other rest d fresh = cc
    by false true none other rest d fresh = cc
    by false false none other rest d fresh =
        let apart : alike x y ≡ false = both x y ∙ other in
        let absent : list_any (alike x) (xs ++ y ∷ []) ≡ false = list_any-append (alike x) xs (y ∷ []) ∙ (λ i. none i || (apart i || false)) in
        λ i. not (absent i) && rest d fresh i

-- some item passes where more than none do
pub list_any-count_by : {X : Type 0} (p : X → Bool) (xs : List X) → list_any p xs ≡ nat_lt 0 (count_by p xs)
list_any-count_by p xs = by (list_any p xs) refl
  where
    by : (b : Bool) → list_any p xs ≡ b → b ≡ nat_lt 0 (count_by p xs)
    by true is = let some = count_by_some p xs is in grind (arith, nat_tests)
    by false is = let none = count_by_none p xs is in grind (arith, nat_tests)
