-- Names, and how often each is counted.
use Rattle.std.proofs.Common.{◌≡◌, ℕ, ◌+◌, ◌<◌, ◌≤◌, Bool, true, false, cond, List, [], ◌∷◌, map, take, get_or, length, count_by, Option, unwrap_or, refl, sym, ap, ◌∙◌, arith}
use Rattle.std.specs.Cmp.{IsEquivalence}
use Rattle.std.specs.List.{sum_by}
use Rattle.std.specs.Map.{lookup}
use Rattle.std.specs.Cmp.Lexicographic.{bytes_decides, nat_list_eq_equiv}
use Rattle.std.proofs.lemmas.List.Sums.{sum_by-cons, sum_by_more_le}
use Rattle.indexmap.specs.IndexMap.{IndexMap, get, Updates}
use Rattle.rail_base.specs.NameForms.{same_name}
use Rattle.rail_track.specs.KeyCounts.{times}

pub same_name-comm : (x y : List ℕ) → same_name x y ≡ same_name y x
same_name-comm x y = nat_list_eq_equiv.symm x y

pub same_name-self : (x : List ℕ) → same_name x x ≡ true
same_name-self x = (bytes_decides x x).1 refl

pub same_from_name : (x y : List ℕ) → same_name x y ≡ true → x ≡ y
same_from_name x y = (bytes_decides x y).0

module _ {K : Type 0} (eq : K → K → Bool) (laws : IsEquivalence eq) where
  -- a key alone is counted once, where it is the one that is asked for
  pub count_by-one : (key other : K) → count_by (eq other) (key ∷ []) ≡ cond (eq key other) 1 0
  count_by-one key other =
      let f : K → ℕ = λ x. cond (eq other x) 1 0 in
      let own : f key ≡ cond (eq key other) 1 0 = ap (λ b. cond b 1 0) (laws.symm other key) in
      sum_by-cons f key [] ∙ omega (arith, own)

  module _ {S : Type 0} (old new : IndexMap K ℕ S) (key : K) (value : Option ℕ) (updates : Updates eq old new key value) (other : K) where
    times_after : times eq new other ≡ cond (eq key other) (unwrap_or value 0) (times eq old other)
    times_after = ap (λ o. unwrap_or o 0) (updates.0 other) ∙ by (eq key other)
      where
        by : (b : Bool) → unwrap_or (cond b value (get eq old other)) 0 ≡ cond b (unwrap_or value 0) (times eq old other)
        by true = refl
        by false = refl

    times_there : eq key other ≡ true → times eq old key ≡ times eq old other
    times_there same = λ i. unwrap_or (lookup (λ k. laws.congr key other k same i) old.entries) 0

    pub times_discounted : unwrap_or value 0 + 1 ≡ times eq old key → times eq new other + count_by (eq other) (key ∷ []) ≡ times eq old other
    times_discounted less = rw (count_by-one key other) (ap (λ n. n + cond (eq key other) 1 0) times_after ∙ by (eq key other) times_there)
      where
        by : (b : Bool) → (b ≡ true → times eq old key ≡ times eq old other) → cond b (unwrap_or value 0) (times eq old other) + cond b 1 0 ≡ times eq old other
        by true there = less ∙ there refl
        by false there = omega arith

sum_by-map : {K X : Type 0} (h : K → ℕ) (f : X → K) (xs : List X) → sum_by h (map f xs) ≡ sum_by (λ x. h (f x)) xs
sum_by-map h f [] = refl
sum_by-map h f (x ∷ xs) = sum_by-cons h (f x) (map f xs) ∙ ap (λ n. h (f x) + n) (sum_by-map h f xs) ∙ sym (sum_by-cons (λ y. h (f y)) x xs)

module _ {K X : Type 0} (eq : K → K → Bool) (laws : IsEquivalence eq) (f : X → K) (items : List X) (i : ℕ) (item : X) (within : i < length items) (is : item ≡ get_or items i item) where
  -- a key that is still to be counted is among the keys
  pub count_by_own : count_by (eq (f item)) (map f (take i items)) + 1 ≤ count_by (eq (f item)) (map f items)
  count_by_own =
      let g : X → ℕ = λ x. cond (eq (f item) (f x)) 1 0 in
      let h : K → ℕ = λ k. cond (eq (f item) k) 1 0 in
      let one : g item ≡ 1 = ap (λ b. cond b 1 0) (laws.refl (f item)) in
      omega (arith, sum_by_more_le g items i item within, one, ap g is, sum_by-map h f (take i items), sum_by-map h f items)
