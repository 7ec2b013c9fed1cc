-- A list with an item put in at a place.
use Rattle.std.proofs.Common.{◌≡◌, ℕ, zero, suc, ◌+◌, ◌-◌, ◌<◌, if◌then◌else◌, nat_lt, Bool, true, false, cond, not, ◌&&◌, ◌||◌, List, [], ◌∷◌, ◌++◌, length, map, insert, remove, slice_get, count_by, position, Some, None, IsSomeAnd, refl, sym, ap, ◌∙◌, arith, length-append, Result, Ok, Err, is_err, OnOk}
use Rattle.std.specs.List.{find, list_any, list_all, position_or_len}
use Rattle.std.specs.Option.{option_map_or}
use Rattle.std.proofs.lemmas.Bool.{and_parts}
use Rattle.std.proofs.lemmas.Bool.Decides.{nat_tests}
use Rattle.std.proofs.lemmas.List.{append-nil, get_or_push}
use Rattle.std.proofs.lemmas.List.Edits.{remove-append_right}
use Rattle.std.proofs.lemmas.List.Folds.{find_at}
use Rattle.std.proofs.lemmas.Option.{slice_get_read, slice_get_within}
use Rattle.indexmap.specs.IndexMap.{move_index}
use Rattle.indexmap.specs.IndexSet.{insert_key}
use Rattle.rail_base.specs.Lists.{are_distinct}
use Rattle.rail_track.specs.Lists.{without, StoodAt}
use Rattle.rail_track.proofs.Rolls.{list_any-map}
use Rattle.rail_track.proofs.Withouts.{count_by-cons}

module _ {X : Type 0} (p : X → Bool) where
  -- an item that was taken out, put back at its place
  pub insert-without : (xs : List X) (x : X) → find p xs ≡ Some x → insert (without p xs) (position_or_len p xs) x ≡ xs
  insert-without [] x found = cc
  insert-without (y ∷ ys) x found = by (p y) (insert-without ys x) found
    where
      next : 1 + position_or_len p ys ≡ suc (position_or_len p ys)
      next = omega arith

      by : (b : Bool) → (find p ys ≡ Some x → insert (without p ys) (position_or_len p ys) x ≡ ys) → cond b (Some y) (find p ys) ≡ Some x → insert (cond b ys (y ∷ without p ys)) (cond (not b) (1 + position_or_len p ys) 0) x ≡ y ∷ ys
      by true rest found = let same : y ≡ x = cc in ap (λ z. z ∷ ys) (sym same)
      by false rest found = ap (λ n. insert (y ∷ without p ys) n x) next ∙ ap (λ zs. y ∷ zs) (rest found)

  pub count_by-insert : (xs : List X) (i : ℕ) (x : X) → count_by p (insert xs i x) ≡ count_by p xs + cond (p x) 1 0
  count_by-insert xs zero x = omega (arith, count_by-cons p x xs)
  count_by-insert [] (suc i) x = omega (arith, count_by-cons p x [])
  count_by-insert (y ∷ ys) (suc i) x = omega (arith, count_by-cons p y ys, count_by-cons p y (insert ys i x), count_by-insert ys i x)

  -- an item that was put in is found, where none of the others is
  pub find-insert : (xs : List X) (i : ℕ) (x : X) → list_any p xs ≡ false → p x ≡ true → find p (insert xs i x) ≡ Some x
  find-insert xs zero x none is = ap (λ b. cond b (Some x) (find p xs)) is
  find-insert [] (suc i) x none is = ap (λ b. cond b (Some x) None) is
  find-insert (y ∷ ys) (suc i) x none is = by (p y) (find-insert ys i x) none
    where
      by : (b : Bool) → (list_any p ys ≡ false → p x ≡ true → find p (insert ys i x) ≡ Some x) → (b || list_any p ys) ≡ false → cond b (Some y) (find p (insert ys i x)) ≡ Some x
      by true rest none = cc
      by false rest none = rest none is

  -- an item that was put in, taken out again
  pub without-insert : (xs : List X) (i : ℕ) (x : X) → list_any p xs ≡ false → p x ≡ true → without p (insert xs i x) ≡ xs
  without-insert xs zero x none is = λ i. cond (is i) xs (x ∷ without p xs)
  without-insert [] (suc i) x none is = λ i. cond (is i) [] (x ∷ [])
  without-insert (y ∷ ys) (suc i) x none is = by (p y) (without-insert ys i x) none
    where
      by : (b : Bool) → (list_any p ys ≡ false → p x ≡ true → without p (insert ys i x) ≡ ys) → (b || list_any p ys) ≡ false → cond b (insert ys i x) (y ∷ without p (insert ys i x)) ≡ y ∷ ys
      by true rest none = cc
      by false rest none = ap (λ zs. y ∷ zs) (rest none is)

  length-without : (xs : List X) (x : X) → find p xs ≡ Some x → length xs ≡ length (without p xs) + 1
  length-without [] x found = cc
  length-without (y ∷ ys) x found = by (p y) (length-without ys x) found
    where
      by : (b : Bool) → (find p ys ≡ Some x → length ys ≡ length (without p ys) + 1) → cond b (Some y) (find p ys) ≡ Some x → length (y ∷ ys) ≡ length (cond b ys (y ∷ without p ys)) + 1
      by true rest found = omega arith
      by false rest found = omega (arith, rest found)

  -- the place of an item that is found
  found_within : (xs : List X) (x : X) → find p xs ≡ Some x → position_or_len p xs < length xs
  found_within xs x found = slice_get_within xs (position_or_len p xs) x (sym (find_at p xs) ∙ found)

  -- an item that was taken out stood at the place where it was found
  pub stood_at : (xs : List X) (x : X) → find p xs ≡ Some x → IsSomeAnd (position p xs) (StoodAt x (without p xs) xs)
  stood_at xs x found =
      let less = found_within xs x found in
      let there : nat_lt (position_or_len p xs) (length xs) ≡ true = grind (arith, nat_tests) in
      let size = length-without xs x found in
      rw there record {
        within = omega (arith, size);
        again = insert-without xs x found;
      }

pub map-insert : {X Y : Type 0} (f : X → Y) (xs : List X) (i : ℕ) (x : X) → map f (insert xs i x) ≡ insert (map f xs) i (f x)
map-insert f xs zero x = refl
map-insert f [] (suc i) x = refl
map-insert f (y ∷ ys) (suc i) x = ap (λ zs. f y ∷ zs) (map-insert f ys i x)

-- an item of a list whose items are apart is apart from all others
pub fresh_from : {X : Type 0} (alike : X → X → Bool) → ((x y : X) → alike x y ≡ alike y x) → (xs : List X) (i : ℕ) (x : X) → are_distinct alike (insert xs i x) ≡ true → list_any (alike x) xs ≡ false
fresh_from {X = X} alike both xs zero x d = by (list_any (alike x) xs) d
  where
    by : (b : Bool) → (not b && are_distinct alike xs) ≡ true → b ≡ false
    by true d = cc
    by false d = refl
fresh_from {X = X} alike both [] (suc i) x d = refl
fresh_from {X = X} alike both (y ∷ ys) (suc i) x d = by (list_any (alike y) (insert ys i x)) (alike x y) refl (both x y) (fresh_from {X = X} alike both ys i x) d
  where
    there : (zs : List X) (j : ℕ) → list_any (alike y) (insert zs j x) ≡ false → alike y x ≡ false
    there zs zero none = first (alike y x) none
      where
        first : (b : Bool) → (b || list_any (alike y) zs) ≡ false → b ≡ false
        first true none = cc
        first false none = refl
    there [] (suc j) none = first (alike y x) none
      where
        first : (b : Bool) → (b || false) ≡ false → b ≡ false
        first true none = cc
        first false none = refl
    there (z ∷ zs) (suc j) none = there zs j (rest (alike y z) none)
      where
        rest : (b : Bool) → (b || list_any (alike y) (insert zs j x)) ≡ false → list_any (alike y) (insert zs j x) ≡ false
        rest true none = cc
        rest false none = none

    by : (b c : Bool) → list_any (alike y) (insert ys i x) ≡ b → c ≡ alike y x → (are_distinct alike (insert ys i x) ≡ true → list_any (alike x) ys ≡ false) → (not b && are_distinct alike (insert ys i x)) ≡ true → (c || list_any (alike x) ys) ≡ false
    by true c none same rest d = cc
    by false c none same rest d = λ j. (same ∙ there ys i none) j || rest d j

-- the keys of a roll with an item put in
last_place : {K : Type 0} (p : K → Bool) (ks : List K) → list_any p ks ≡ false → position_or_len p ks ≡ length ks
last_place p [] none = refl
last_place p (k ∷ ks) none = by (p k) (last_place p ks) none
  where
    by : (b : Bool) → (list_any p ks ≡ false → position_or_len p ks ≡ length ks) → (b || list_any p ks) ≡ false → cond (not b) (1 + position_or_len p ks) 0 ≡ suc (length ks)
    by true rest none = cc
    by false rest none = omega (arith, rest none)

last_one : {K : Type 0} (ks : List K) (k : K) → slice_get (ks ++ k ∷ []) (length ks) ≡ Some k
last_one ks k =
    let size = length-append ks (k ∷ []) in
    slice_get_read (ks ++ k ∷ []) (length (ks ++ k ∷ [])) (length ks) k refl (omega (arith, size)) (sym (get_or_push ks k k (length ks) refl))

without_last_one : {K : Type 0} (ks : List K) (k : K) → remove (ks ++ k ∷ []) (length ks) ≡ ks
without_last_one ks k =
    let none : length ks - length ks ≡ 0 = omega arith in
    remove-append_right ks (k ∷ []) (length ks) (length ks) refl (omega arith) ∙ ap (λ n. ks ++ remove (k ∷ []) n) none ∙ append-nil ks

-- a key that no item has is none of the keys
pub absent_key : {K X : Type 0} (eq : K → K → Bool) (f : X → K) (ks : List K) (xs : List X) → ks ≡ map f xs → (x : X) (k : K) → k ≡ f x → list_any (λ y. eq (f x) (f y)) xs ≡ false → list_any (eq k) ks ≡ false
absent_key eq f ks xs same x k is absent = ap (λ j. list_any (eq j) ks) is ∙ ap (list_any (eq (f x))) same ∙ list_any-map (eq (f x)) f xs ∙ absent

-- what a result that is no fault says
pub on_ok : {T E : Type 0} {P : Type 0} (r : Result T E) → is_err r ≡ false → OnOk r P → P
on_ok (Ok x) fine p = p
on_ok (Err e) fine p = cc

pub inserted_keys : {K X : Type 0} (eq : K → K → Bool) (f : X → K) (ks : List K) (xs : List X) (i : ℕ) → ks ≡ map f xs → (x : X) (k : K) → k ≡ f x → list_any (λ y. eq (f x) (f y)) xs ≡ false
    → move_index (insert_key eq ks k) (position_or_len (eq k) ks) i ≡ map f (insert xs i x)
inserted_keys eq f ks xs i same x k is absent =
    let none = absent_key eq f ks xs same x k is absent in
    (λ j. move_index (if none j then ks else ks ++ k ∷ []) (last_place (eq k) ks none j) i)
    ∙ (λ j. option_map_or (λ z. insert (without_last_one ks k j) i z) (last_one ks k j) (ks ++ k ∷ []))
    ∙ (λ j. insert (same j) i (is j)) ∙ sym (map-insert f xs i x)

-- what holds of all items holds of the one that was put in
pub all_inserted : {X : Type 0} (p : X → Bool) (xs : List X) (i : ℕ) (x : X) → list_all p (insert xs i x) ≡ true → p x ≡ true
all_inserted p xs zero x all = (and_parts (p x) (list_all p xs) all).0
all_inserted p [] (suc i) x all = (and_parts (p x) true all).0
all_inserted p (y ∷ ys) (suc i) x all = all_inserted p ys i x (and_parts (p y) (list_all p (insert ys i x)) all).1
