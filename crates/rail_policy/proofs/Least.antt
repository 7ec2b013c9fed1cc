-- The least of the offers so far.
use Rattle.std.proofs.Common.{◌≡◌, ℕ, ◌+◌, ◌<◌, Bool, true, false, ◌&&◌, ◌||◌, ◌==◌, nat_lt, List, [], ◌∷◌, length, get_or, refl, sym, ap, ◌∙◌, inl, inr, arith, below_more}
use Rattle.std.proofs.lemmas.Bool.{false≢true, false_from_ne_true}
use Rattle.std.proofs.lemmas.Bool.Decides.{nat_tests}
use Rattle.std.proofs.lemmas.Option.{get_or_from_slice_get, slice_get_cases, slice_get_read}
use Rattle.rail_base.specs.declared.orders.PolicyKind.{PolicyKind}
use Rattle.rail_rules.specs.Numbers.{comes_before}
use Rattle.rail_policy.specs.declared.offer.Offer.{Offer}
use Rattle.rail_policy.specs.Keys.{offer_key, goes_before}
use Rattle.rail_policy.specs.Choices.{HasLeastKey}

-- heads and rests, each of which goes before the next
before_third : (x y z : ℕ) (p q r : Bool) → (nat_lt x y || (x == y) && p) ≡ true → (nat_lt y z || (y == z) && q) ≡ true
    → (p ≡ true → q ≡ true → r ≡ true) → (nat_lt x z || (x == z) && r) ≡ true
before_third x y z p q r g h k = grind (arith, nat_tests)

-- a head doesn't go before itself, where its rest doesn't
not_itself : (x : ℕ) (p : Bool) → p ≡ false → (nat_lt x x || (x == x) && p) ≡ false
not_itself x p h = grind (arith, nat_tests)

-- numbers don't go before themselves
pub irreflexive : (xs : List ℕ) → comes_before xs xs ≡ false
irreflexive [] = refl
irreflexive (x ∷ xs) = not_itself x (comes_before xs xs) (irreflexive xs)

-- what goes before a list that goes before a third one goes before that
pub transitive : (xs ys zs : List ℕ) → comes_before xs ys ≡ true → comes_before ys zs ≡ true → comes_before xs zs ≡ true
transitive [] ys zs g h = absurd (false≢true g)
transitive (x ∷ xs) [] zs g h = absurd (false≢true g)
transitive (x ∷ xs) (y ∷ ys) [] g h = absurd (false≢true h)
transitive (x ∷ xs) (y ∷ ys) (z ∷ zs) g h =
    before_third x y z (comes_before xs ys) (comes_before ys zs) (comes_before xs zs) g h (transitive xs ys zs)

-- the offer at this index is there, and none of those so far goes before it
pub record IsLeastOf (kind : PolicyKind) (mark : ℕ) (offers : List Offer) (upto index : ℕ) : Type 0 where
  pub inside : index < length offers
  pub least : (k : ℕ) (d : Offer) → k < upto → goes_before kind mark (get_or offers k d) (get_or offers index d) ≡ false

-- the offer at a index, whatever is read past the end
read : (offers : List Offer) (i : ℕ) (x d : Offer) → i < length offers → x ≡ get_or offers i x → get_or offers i d ≡ x
read offers i x d lt is = get_or_from_slice_get offers i x d (slice_get_read offers (length offers) i x refl lt is)

module _ (kind : PolicyKind) (mark : ℕ) (offers : List Offer) where
  -- what is known of two offers, at their places
  at_indices : (i j : ℕ) (x y d : Offer) (b : Bool) → i < length offers → j < length offers → x ≡ get_or offers i x → y ≡ get_or offers j y
      → goes_before kind mark x y ≡ b → goes_before kind mark (get_or offers i d) (get_or offers j d) ≡ b
  at_indices i j x y d b i_lt j_lt x_is y_is h =
      ap (λ (a : Offer). goes_before kind mark a (get_or offers j d)) (read offers i x d i_lt x_is)
      ∙ ap (λ (a : Offer). goes_before kind mark x a) (read offers j y d j_lt y_is) ∙ h

  -- the next offer doesn't go before it
  pub least_stays : (upto index : ℕ) (x y : Offer) → IsLeastOf kind mark offers upto index → upto < length offers
      → x ≡ get_or offers upto x → y ≡ get_or offers index y → goes_before kind mark x y ≡ false → IsLeastOf kind mark offers (upto + 1) index
  least_stays upto index x y so_far lt x_is y_is stays =
      record {
        inside = so_far.inside;
        least = λ k d below. below_more
            (λ (n : ℕ). goes_before kind mark (get_or offers n d) (get_or offers index d) ≡ false) upto (λ n n_lt. so_far.least n d n_lt)
            (at_indices upto index x y d false lt so_far.inside x_is y_is stays) k below;
      }

  -- the next offer goes before it, and is the least one from now on
  pub least_changes : (upto index : ℕ) (x y : Offer) → IsLeastOf kind mark offers upto index → upto < length offers
      → x ≡ get_or offers upto x → y ≡ get_or offers index y → goes_before kind mark x y ≡ true → IsLeastOf kind mark offers (upto + 1) upto
  least_changes upto index x y so_far lt x_is y_is changes =
      record {
        inside = lt;
        least = λ k d below. below_more
            (λ (n : ℕ). goes_before kind mark (get_or offers n d) (get_or offers upto d) ≡ false) upto
            (λ n n_lt. false_from_ne_true (goes_before kind mark (get_or offers n d) (get_or offers upto d)) (λ before.
            false≢true (sym (so_far.least n d n_lt) ∙ transitive (offer_key kind mark (get_or offers n d)) (offer_key kind mark (get_or offers upto d)) (offer_key kind mark (get_or offers index d)) before
            (at_indices upto index x y d true lt so_far.inside x_is y_is changes))))
            (irreflexive (offer_key kind mark (get_or offers upto d))) k below;
      }

  -- of all offers it has the least key
  pub least_of_all : (index : ℕ) → IsLeastOf kind mark offers (length offers) index → HasLeastKey kind mark offers index
  least_of_all index so_far =
      elim (slice_get_cases offers index).1 [
        | inl found ↦ record {
          chosen = found.0;
          there = found.2;
          least = λ k d lt.
              ap (λ (c : Offer). goes_before kind mark (get_or offers k d) c) (sym (get_or_from_slice_get offers index found.0 d found.2)) ∙ so_far.least k d lt;
        }
        | inr past ↦ absurd (omega (arith, past.0, so_far.inside))
      ]
