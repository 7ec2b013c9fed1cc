-- Lists whose items are found by a test, and tests that stay true.
use Rattle.std.proofs.Common.{◌≡◌, Bool, true, false, cond, not, ◌&&◌, ◌||◌, List, [], ◌∷◌, ◌++◌, Option, Some, None, is_some, refl, sym, ap, ◌∙◌}
use Rattle.std.specs.List.{find, list_any, list_all}
use Rattle.std.specs.Option.{option_or}
use Rattle.std.proofs.lemmas.List.Folds.{find-append, list_all-append, list_any-append}
use Rattle.rail_base.specs.Lists.{are_distinct}
use Rattle.rail_track.specs.Lists.{without}
use Rattle.rail_routes.proofs.Uses.{list_any-find}

pub both_false : (b c : Bool) → (b || c) ≡ false → (b ≡ false) × (c ≡ false)
both_false true c h = cc
both_false false c h = (refl, h)

pub both_true : (b c : Bool) → (b && c) ≡ true → (b ≡ true) × (c ≡ true)
both_true true c h = (refl, h)
both_true false c h = cc

pub not_false : (b : Bool) → not b ≡ false → b ≡ true
not_false true h = refl
not_false false h = cc

-- the last of some tests may be another that holds where it holds
pub last_kept : (b c d : Bool) → (c ≡ true → d ≡ true) → (b && c) ≡ true → (b && d) ≡ true
last_kept true c d keeps h = keeps h
last_kept false c d keeps h = cc

-- the first items of a list whose items are apart are apart
pub distinct_front : {X : Type 0} (alike : X → X → Bool) (xs ys : List X) → are_distinct alike (xs ++ ys) ≡ true → are_distinct alike xs ≡ true
distinct_front alike [] ys apart = refl
distinct_front alike (x ∷ xs) ys apart =
    let (other, rest) = both_true (not (list_any (alike x) (xs ++ ys))) (are_distinct alike (xs ++ ys)) apart in
    let (none, _) = both_false (list_any (alike x) xs) (list_any (alike x) ys) (sym (list_any-append (alike x) xs ys) ∙ not_true (list_any (alike x) (xs ++ ys)) other) in
    λ i. not (none i) && distinct_front alike xs ys rest i
  where
    not_true : (b : Bool) → not b ≡ true → b ≡ false
    not_true true h = cc
    not_true false h = refl

or_none : {X : Type 0} (o : Option X) → option_or o None ≡ o
or_none (Some x) = refl
or_none None = refl

module _ {X : Type 0} (q : X → Bool) where
  -- an item that is found is found with more behind it
  pub find-more : (xs ys : List X) (x : X) → find q xs ≡ Some x → find q (xs ++ ys) ≡ Some x
  find-more xs ys x found = find-append q xs ys ∙ ap (λ o. option_or o (find q ys)) found

  -- one more item that does not pass changes nothing
  pub find-push_other : (xs : List X) (y : X) → q y ≡ false → find q (xs ++ y ∷ []) ≡ find q xs
  find-push_other xs y other = find-append q xs (y ∷ []) ∙ ap (λ b. option_or (find q xs) (cond b (Some y) None)) other ∙ or_none (find q xs)

  -- without an item that does not pass nothing changes
  pub find-without_other : (p : X → Bool) → ((x : X) → p x ≡ true → q x ≡ false) → (xs : List X) → find q (without p xs) ≡ find q xs
  find-without_other p other [] = refl
  find-without_other p other (x ∷ xs) = by (p x) refl (find-without_other p other xs)
    where
      by : (b : Bool) → p x ≡ b → find q (without p xs) ≡ find q xs → find q (cond b xs (x ∷ without p xs)) ≡ find q (x ∷ xs)
      by true is rest = sym (ap (λ c. cond c (Some x) (find q xs)) (other x is))
      by false is rest = ap (λ o. cond (q x) (Some x) o) rest

  -- an item that is found passes
  pub find_true : (xs : List X) (x : X) → find q xs ≡ Some x → q x ≡ true
  find_true [] x found = cc
  find_true (y ∷ xs) x found = by (q y) refl (find_true xs x) found
    where
      by : (b : Bool) → q y ≡ b → (find q xs ≡ Some x → q x ≡ true) → cond b (Some y) (find q xs) ≡ Some x → q x ≡ true
      by true is rest found = let same : y ≡ x = cc in sym (ap q same) ∙ is
      by false is rest found = rest found

  pub any_from_found : (xs : List X) (x : X) → find q xs ≡ Some x → list_any q xs ≡ true
  any_from_found xs x found = list_any-find q xs ∙ ap is_some found

  -- what holds of each item, of which none passes a second test
  pub all_kept : (p r : X → Bool) → ((x : X) → p x ≡ true → r x ≡ false → q x ≡ true) → (xs : List X) → list_all p xs ≡ true → list_any r xs ≡ false → list_all q xs ≡ true
  all_kept p r keeps [] all none = refl
  all_kept p r keeps (x ∷ xs) all none =
      let a = both_true (p x) (list_all p xs) all in
      let n = both_false (r x) (list_any r xs) none in
      λ i. keeps x a.0 n.0 i && all_kept p r keeps xs a.1 n.1 i

  pub all_more : (p : X → Bool) → ((x : X) → p x ≡ true → q x ≡ true) → (xs : List X) → list_all p xs ≡ true → list_all q xs ≡ true
  all_more p keeps [] all = refl
  all_more p keeps (x ∷ xs) all =
      let a = both_true (p x) (list_all p xs) all in
      λ i. keeps x a.0 i && all_more p keeps xs a.1 i

  pub all_push : (xs : List X) (y : X) → list_all q xs ≡ true → q y ≡ true → list_all q (xs ++ y ∷ []) ≡ true
  all_push xs y all last = list_all-append q xs (y ∷ []) ∙ (λ i. all i && (last i && true))
