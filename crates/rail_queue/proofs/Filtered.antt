-- A queue without some of its events.
use Rattle.std.proofs.Common.{◌≡◌, ℕ, Bool, true, false, not, ◌&&◌, cond, List, [], ◌∷◌, count_by, refl, ap, ◌∙◌, ⊎_elim, arith}
use Rattle.std.specs.List.{filter, list_any}
use Rattle.std.proofs.lemmas.Bool.{cases_Bool, and_parts, and_from, or_parts, or_from, not-true, not_from_false, cond-true, cond-false}
use Rattle.std.proofs.lemmas.List.Sums.{sum_by-cons}
use Rattle.rail_queue.specs.declared.event.Event.{Event}
use Rattle.rail_queue.specs.Order.{goes_before, is_sorted}

module _ (test : Event → Bool) where
  none_left : (p : Event → Bool) (xs : List Event) → list_any p xs ≡ false → list_any p (filter test xs) ≡ false
  none_left p [] h = refl
  none_left p (x ∷ xs) h =
      let parts = or_parts (p x) (list_any p xs) h in
      ⊎_elim
      (λ is. ap (list_any p) (cond-true (test x) (x ∷ filter test xs) (filter test xs) is) ∙ or_from (p x) (list_any p (filter test xs)) parts.0 (none_left p xs parts.1))
      (λ isnt. ap (list_any p) (cond-false (test x) (x ∷ filter test xs) (filter test xs) isnt) ∙ none_left p xs parts.1)
      (cases_Bool (test x))

  pub sorted_left : (xs : List Event) → is_sorted xs ≡ true → is_sorted (filter test xs) ≡ true
  sorted_left [] h = refl
  sorted_left (x ∷ xs) h =
      let before : Event → Bool = λ later. goes_before later x in
      let parts = and_parts (not (list_any before xs)) (is_sorted xs) h in
      ⊎_elim
      (λ is. ap is_sorted (cond-true (test x) (x ∷ filter test xs) (filter test xs) is)
      ∙ and_from (not (list_any before (filter test xs))) (is_sorted (filter test xs)) (not_from_false (list_any before (filter test xs)) (none_left before xs (not-true (list_any before xs) parts.0))) (sorted_left xs parts.1))
      (λ isnt. ap is_sorted (cond-false (test x) (x ∷ filter test xs) (filter test xs) isnt) ∙ sorted_left xs parts.1)
      (cases_Bool (test x))

  pub count_left : (p : Event → Bool) (xs : List Event) → count_by p (filter test xs) ≡ count_by (λ e. test e && p e) xs
  count_left p [] = refl
  count_left p (x ∷ xs) =
      ⊎_elim
      (λ is. omega (arith, ap (count_by p) (cond-true (test x) (x ∷ filter test xs) (filter test xs) is), sum_by-cons (λ e. cond (p e) 1 0) x (filter test xs), sum_by-cons (λ e. cond (test e && p e) 1 0) x xs, ap {B = ℕ} (λ b. cond (b && p x) 1 0) is, count_left p xs))
      (λ isnt. omega (arith, ap (count_by p) (cond-false (test x) (x ∷ filter test xs) (filter test xs) isnt), sum_by-cons (λ e. cond (test e && p e) 1 0) x xs, ap {B = ℕ} (λ b. cond (b && p x) 1 0) isnt, count_left p xs))
      (cases_Bool (test x))
