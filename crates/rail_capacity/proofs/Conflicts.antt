-- Any two of the blocking times of a run are disjoint.
use Rattle.std.proofs.Common.{◌≡◌, ◌≤◌, ◌^◌, ◌⊎◌, true, not, ◌&&◌, ◌||◌, ◌==◌, nat_lt, nat_le, List, [], ◌∷◌, inl, inr, sym, ◌∙◌, subst, ⊎_elim}
use Rattle.std.specs.List.{Contains, list_all}
use Rattle.std.proofs.lemmas.Bool.{and_parts, or_cases, ltb-true, leb-true, not-true, eqb-false}
use Rattle.std.proofs.lemmas.List.Elements.{All-contains}
use Rattle.std.proofs.lemmas.List.Sums.{AllPass-from_list_all}
use Rattle.rail_capacity.specs.declared.blocking_times.BlockingTime.{BlockingTime}
use Rattle.rail_capacity.specs.BlockingTimes.{is_in_range, are_disjoint, are_conflict_free, AreConflictFree}
use Rattle.rail_capacity.proofs.Members.{among, in_none}

abbrev Disjoint : BlockingTime → BlockingTime → Type 0
Disjoint x y = x.section ≡ y.section → (x.«end» ≤ y.begin) ⊎ (y.«end» ≤ x.begin)

disjoint : (x y : BlockingTime) → are_disjoint x y ≡ true → Disjoint x y
disjoint x y h same = ⊎_elim
    (λ one. ⊎_elim
    (λ (other : not (x.section == y.section) ≡ true). absurd (eqb-false x.section y.section (not-true (x.section == y.section) other) same))
    (λ (first : nat_le x.«end» y.begin ≡ true). inl (leb-true x.«end» y.begin first))
    (or_cases (not (x.section == y.section)) (nat_le x.«end» y.begin) one))
    (λ (second : nat_le y.«end» x.begin ≡ true). inr (leb-true y.«end» x.begin second))
    (or_cases (not (x.section == y.section) || nat_le x.«end» y.begin) (nat_le y.«end» x.begin) h)

disjoint_from :
    (x : BlockingTime) (others : List BlockingTime) → list_all (are_disjoint x) others ≡ true → (y : BlockingTime) → Contains others y
    → Disjoint x y
disjoint_from x others h y has =
    disjoint x y (All-contains (λ (z : BlockingTime). are_disjoint x z ≡ true) others y (AllPass-from_list_all (are_disjoint x) others h) has)

in_range : (blocks : List BlockingTime) → are_conflict_free blocks ≡ true → (x : BlockingTime) → Contains blocks x → is_in_range x ≡ true
in_range [] h x has = in_none x has
in_range (z ∷ blocks) h x has =
    let parts = and_parts (is_in_range z && list_all (are_disjoint z) blocks) (are_conflict_free blocks) h in
    ⊎_elim
    (λ (is : z ≡ x). let P : BlockingTime → Type 0 = λ s. is_in_range s ≡ true in subst P is (and_parts (is_in_range z) (list_all (are_disjoint z) blocks) parts.0).0)
    (λ (later : Contains blocks x). in_range blocks parts.1 x later)
    (among z blocks x has)

two :
    (blocks : List BlockingTime) → are_conflict_free blocks ≡ true
    → (x y : BlockingTime) → Contains blocks x → Contains blocks y → x.section ≡ y.section
    → (x ≡ y) ⊎ ((x.«end» ≤ y.begin) ⊎ (y.«end» ≤ x.begin))
two [] h x y has too same = in_none x has
two (z ∷ blocks) h x y has too same =
    let parts = and_parts (is_in_range z && list_all (are_disjoint z) blocks) (are_conflict_free blocks) h in
    let free = (and_parts (is_in_range z) (list_all (are_disjoint z) blocks) parts.0).1 in
    ⊎_elim
    (λ (is : z ≡ x). ⊎_elim
    (λ (also : z ≡ y). inl (sym is ∙ also))
    (λ (later : Contains blocks y). let P : BlockingTime → Type 0 = λ s. Disjoint s y in inr (subst P is (disjoint_from z blocks free y later) same))
    (among z blocks y too))
    (λ (later : Contains blocks x). ⊎_elim
    (λ (is : z ≡ y).
    let P : BlockingTime → Type 0 = λ s. Disjoint s x in
    ⊎_elim (λ (h1 : y.«end» ≤ x.begin). inr (inr h1)) (λ (h2 : x.«end» ≤ y.begin). inr (inl h2)) (subst P is (disjoint_from z blocks free x later) (sym same)))
    (λ (also : Contains blocks y). two blocks parts.1 x y later also same)
    (among z blocks y too))
    (among z blocks x has)

pub any_two : (blocks : List BlockingTime) → are_conflict_free blocks ≡ true → AreConflictFree blocks
any_two blocks h = record {
  positive = λ x has. ltb-true x.begin x.«end» (and_parts (nat_lt x.begin x.«end») (nat_lt x.«end» (2 ^ 50)) (in_range blocks h x has)).0;
  below = λ x has. ltb-true x.«end» (2 ^ 50) (and_parts (nat_lt x.begin x.«end») (nat_lt x.«end» (2 ^ 50)) (in_range blocks h x has)).1;
  apart = two blocks h;
}
