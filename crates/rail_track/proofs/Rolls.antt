-- Items in order beside the list of their keys.
use Rattle.std.proofs.Common.{◌≡◌, ℕ, suc, ◌+◌, ◌<◌, ◌≤◌, Bool, true, false, cond, not, ◌||◌, List, [], ◌∷◌, ◌++◌, length, map, get_or, remove, slice_get, position, nat_lt, None, Some, refl, sym, ap, ◌∙◌, arith, if◌then◌else◌}
use Rattle.std.specs.List.{find, list_any, position_or_len}
use Rattle.std.specs.Set.{remove_key}
use Rattle.indexmap.specs.IndexSet.{insert_key}
use Rattle.std.proofs.lemmas.List.Folds.{find_at}
use Rattle.std.proofs.lemmas.List.{length-map, drop_all, take_all, append-nil, map-append}
use Rattle.std.proofs.lemmas.Option.{slice_get_read, slice_get_past}
use Rattle.std.proofs.lemmas.Bool.Decides.{nat_tests}
use Rattle.rail_track.specs.Lists.{without}

module _ {K X : Type 0} (p : K → Bool) (f : X → K) where
  pub list_any-map : (xs : List X) → list_any p (map f xs) ≡ list_any (λ x. p (f x)) xs
  list_any-map [] = refl
  list_any-map (x ∷ xs) = ap (λ b. p (f x) || b) (list_any-map xs)

  position_or_len-map : (xs : List X) → position_or_len p (map f xs) ≡ position_or_len (λ x. p (f x)) xs
  position_or_len-map [] = refl
  position_or_len-map (x ∷ xs) = ap (λ n. cond (not (p (f x))) (1 + n) 0) (position_or_len-map xs)

  map-without : (xs : List X) → map f (without (λ x. p (f x)) xs) ≡ remove_key p (map f xs)
  map-without [] = refl
  map-without (x ∷ xs) = by (p (f x)) (map-without xs)
    where
      by : (b : Bool) → map f (without (λ y. p (f y)) xs) ≡ remove_key p (map f xs) → map f (cond b xs (x ∷ without (λ y. p (f y)) xs)) ≡ cond b (map f xs) (f x ∷ remove_key p (map f xs))
      by true rest = refl
      by false rest = ap (λ ys. f x ∷ ys) rest

module _ {X : Type 0} (p : X → Bool) where
  without-remove : (xs : List X) → without p xs ≡ remove xs (position_or_len p xs)
  without-remove [] = refl
  without-remove (x ∷ xs) = by (p x) (without-remove xs)
    where
      next : 1 + position_or_len p xs ≡ suc (position_or_len p xs)
      next = omega arith

      by : (b : Bool) → without p xs ≡ remove xs (position_or_len p xs) → cond b xs (x ∷ without p xs) ≡ remove (x ∷ xs) (cond (not b) (1 + position_or_len p xs) 0)
      by true rest = refl
      by false rest = ap (λ ys. x ∷ ys) rest ∙ sym (ap (remove (x ∷ xs)) next)

  place_is : (xs : List X) (i : ℕ) → position p xs ≡ Some i → (position_or_len p xs ≡ i) × (i < length xs)
  place_is xs i h = grind (arith, nat_tests)

  place_past : (xs : List X) → position p xs ≡ None → length xs ≤ position_or_len p xs
  place_past xs h = grind (arith, nat_tests)

module _ {K X : Type 0} (p : K → Bool) (f : X → K) (ks : List K) (xs : List X) (same : ks ≡ map f xs) where
  place : position_or_len p ks ≡ position_or_len (λ x. p (f x)) xs
  place = ap (position_or_len p) same ∙ position_or_len-map p f xs

  pub position_of_key : position p ks ≡ position (λ y. p (f y)) xs
  position_of_key = λ i. cond (nat_lt (place i) ((ap length same ∙ length-map xs f) i)) (Some (place i)) None

  past : position p ks ≡ None → length xs ≤ position_or_len (λ y. p (f y)) xs
  past none = omega (arith, place_past p ks none, place, ap length same, length-map xs f)

  -- the item at the place of its key
  pub found_item : (i : ℕ) (x : X) → position p ks ≡ Some i → x ≡ get_or xs i x → Some x ≡ find (λ y. p (f y)) xs
  found_item i x at read =
      let found = place_is p ks i at in
      let within : i < length xs = omega (arith, found.1, ap length same, length-map xs f) in
      sym (find_at (λ y. p (f y)) xs ∙ ap (slice_get xs) (sym place ∙ found.0) ∙ slice_get_read xs (length xs) i x refl within read)

  pub removed_items : (i : ℕ) → position p ks ≡ Some i → remove xs i ≡ without (λ y. p (f y)) xs
  removed_items i at = ap (remove xs) (sym ((place_is p ks i at).0) ∙ place) ∙ sym (without-remove (λ y. p (f y)) xs)

  pub missing_item : position p ks ≡ None → None ≡ find (λ y. p (f y)) xs
  missing_item none = sym (find_at (λ y. p (f y)) xs ∙ slice_get_past xs _ (past none))

  pub kept_items : position p ks ≡ None → xs ≡ without (λ y. p (f y)) xs
  kept_items none =
      let n = position_or_len (λ y. p (f y)) xs in
      let far : length xs ≤ n = past none in
      let all : xs ≡ remove xs n = sym ((λ j. take_all n xs far j ++ drop_all (suc n) xs (omega (arith, far)) j) ∙ append-nil xs) in
      all ∙ sym (without-remove (λ y. p (f y)) xs)

  pub removed_keys : remove_key p ks ≡ map f (without (λ y. p (f y)) xs)
  removed_keys = ap (remove_key p) same ∙ sym (map-without p f xs)

-- the key of a new item goes last
pub pushed_keys : {K X : Type 0} (eq : K → K → Bool) (f : X → K) (ks : List K) (xs : List X) → ks ≡ map f xs → (x : X) (k : K) → k ≡ f x → list_any (λ y. eq (f x) (f y)) xs ≡ false → insert_key eq ks k ≡ map f (xs ++ x ∷ [])
pushed_keys eq f ks xs same x k is absent =
    let here : list_any (eq k) ks ≡ false = ap (λ j. list_any (eq j) ks) is ∙ ap (list_any (eq (f x))) same ∙ list_any-map (eq (f x)) f xs ∙ absent in
    ap (λ b. if b then ks else ks ++ k ∷ []) here ∙ (λ j. same j ++ is j ∷ []) ∙ sym (map-append f xs (x ∷ []))
