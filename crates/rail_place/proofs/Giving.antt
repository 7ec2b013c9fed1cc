-- The table of owners: giving sections to a train, and the first section that has an owner.
use Rattle.std.proofs.Common.{◌≡◌, ℕ, zero, suc, ◌+◌, ◌<◌, true, false, eqb, List, [], ◌∷◌, ◌++◌, length, get_or, set, take, drop, Option, Some, None, refl, sym, ap, ◌∙◌, ⊎_elim, arith}
use Rattle.std.proofs.lemmas.Bool.{or_parts, or_cases, or_right, cases_Bool, false≢true, eqb-true, eqb-false}
use Rattle.std.proofs.Math.Seq.{take-append_seam}
use Rattle.std.proofs.lemmas.List.{get_or-set_same, get_or-set_other, length-set, drop_more, ext_get_or}
use Rattle.rail_rules.specs.Numbers.{is_in, or_else}
use Rattle.rail_rules.proofs.CallerLemmas.{is_in-head}
use Rattle.rail_place.specs.declared.barring.Barred.TheVariants.{Held}
use Rattle.rail_place.specs.Bars.{barred_by}
use Rattle.rail_place.specs.PlaceStates.{IsFreeBehind}
use Rattle.rail_place.specs.Owners.{given, first_owned_in}

pub length-given : {X : Type 0} → (owners : List X) (xs : List ℕ) (owner : X) → length (given owners xs owner) ≡ length owners
length-given owners [] owner = refl
length-given owners (x ∷ xs) owner = length-given (set owners x owner) xs owner ∙ length-set owners x owner

-- a section that isn't named keeps its owner
pub given-other : {X : Type 0} → (owners : List X) (xs : List ℕ) (owner d : X) (x : ℕ) → is_in x xs ≡ false → get_or (given owners xs owner) x d ≡ get_or owners x d
given-other owners [] owner d x out = refl
given-other owners (y ∷ ys) owner d x out =
    let parts = or_parts (eqb y x) (is_in x ys) out in
    given-other (set owners y owner) ys owner d x parts.1
    ∙ get_or-set_other owners y x owner d (λ same. eqb-false y x parts.0 (sym same))

-- each section that is named has the owner
pub given-named : {X : Type 0} → (owners : List X) (xs : List ℕ) (owner d : X) (x : ℕ) → is_in x xs ≡ true → x < length owners → get_or (given owners xs owner) x d ≡ owner
given-named owners [] owner d x is lt = absurd (false≢true is)
given-named owners (y ∷ ys) owner d x is lt =
    ⊎_elim
    (λ later. given-named (set owners y owner) ys owner d x later (omega (arith, length-set owners y owner)))
    (λ not_later. ⊎_elim
    (λ here.
    let same : y ≡ x = eqb-true y x here in
    given-other (set owners y owner) ys owner d x not_later
    ∙ ap (λ i. get_or (set owners i owner) x d) same
    ∙ get_or-set_same owners x owner d lt)
    (λ later. absurd (false≢true (sym not_later ∙ later)))
    (or_cases (eqb y x) (is_in x ys) is))
    (cases_Bool (is_in x ys))

-- the item at an index is in the list
pub is_in-get_or : (xs : List ℕ) (i d : ℕ) → i < length xs → is_in (get_or xs i d) xs ≡ true
is_in-get_or [] i d lt = absurd (omega arith)
is_in-get_or (x ∷ xs) zero d lt = is_in-head x xs
is_in-get_or (x ∷ xs) (suc i) d lt = or_right (eqb x (get_or xs i d)) (is_in (get_or xs i d) xs) (is_in-get_or xs i d (omega arith))

pub range_at : (xs : List ℕ) (i x n : ℕ) → ((y : ℕ) → is_in y xs ≡ true → y < n) → i < length xs → x ≡ get_or xs i x → x < n
range_at xs i x n h lt is = h x (ap (λ y. is_in y xs) is ∙ is_in-get_or xs i x lt)

-- the section at the index has an owner
pub first_owned-here : (owners : List (Option ℕ)) (xs : List ℕ) (i x u : ℕ) → i < length xs → x ≡ get_or xs i x → get_or owners x None ≡ Some u → first_owned_in owners (drop i xs) ≡ Some (Held x u)
first_owned-here owners xs i x u lt is owner =
    let same : drop i xs ≡ x ∷ drop (i + 1) xs = drop_more xs i x lt ∙ ap (λ y. y ∷ drop (i + 1) xs) (sym is) in
    ap (first_owned_in owners) same ∙ ap (λ o. or_else (barred_by x o) (first_owned_in owners (drop (i + 1) xs))) owner

-- where neither table has an owner behind the first so many sections, those ones of the other table make it the same
pub front_copied : (n : ℕ) (own others : List (Option ℕ)) → length own ≡ length others → IsFreeBehind n own → IsFreeBehind n others → take n others ++ drop n own ≡ others
front_copied zero own others long free there = ext_get_or None own others long (λ x lt. free x (omega arith) ∙ sym (there x (omega arith)))
front_copied (suc n) [] [] long free there = refl
front_copied (suc n) [] (y ∷ others) long free there = absurd (omega (arith, long))
front_copied (suc n) (x ∷ own) [] long free there = absurd (omega (arith, long))
front_copied (suc n) (x ∷ own) (y ∷ others) long free there =
    ap (λ rest. y ∷ rest) (front_copied n own others (omega (arith, long)) (λ i le. free (suc i) (omega (arith, le))) (λ i le. there (suc i) (omega (arith, le))))

-- so a table into which they are copied is the other one
pub front_written :
    (n len : ℕ)
    (own others new : List (Option ℕ))
    → new ≡ take n others ++ drop n own → length own ≡ len → length others ≡ len
    → IsFreeBehind n own → IsFreeBehind n others → take len (new ++ drop (length new) own) ≡ others
front_written n len own others new copied here there free apart =
    let same : new ≡ others = copied ∙ front_copied n own others (here ∙ sym there) free apart in
    let all : take (length new) (new ++ drop (length new) own) ≡ new = take-append_seam new (drop (length new) own) in
    ap (λ k. take k (new ++ drop (length new) own)) (sym there ∙ ap length (sym same)) ∙ all ∙ same
