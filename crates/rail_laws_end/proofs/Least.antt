-- A list of entries that isn't empty has a least one.
use Rattle.std.proofs.Common.{◌≡◌, ℕ, true, false, ◌&&◌, eqb, ltb, List, [], ◌∷◌, refl, sym, ◌∙◌, ⊎_elim, arith}
use Rattle.std.specs.List.{list_any}
use Rattle.std.proofs.lemmas.Bool.{cases_Bool, false≢true, and_parts, and_from, or_cases, or_left, or_right, or_from, or_parts, eqb-true, eq-eqb, ltb-true, lt-ltb, false_from_ne_true}
use Rattle.rail_base.specs.declared.history.Entry.{Entry}
use Rattle.rail_rules.specs.Numbers.{comes_before}
use Rattle.rail_rules.specs.Fronts.{rank, same_entry}
use Rattle.rail_laws_front.proofs.CallerLemmas.{same_entry_refl}

-- the order is transitive and irreflexive
transitive : (xs ys zs : List ℕ) → comes_before xs ys ≡ true → comes_before ys zs ≡ true → comes_before xs zs ≡ true
transitive [] ys zs first second = absurd (false≢true first)
transitive (x ∷ xs) [] zs first second = absurd (false≢true first)
transitive (x ∷ xs) (y ∷ ys) [] first second = absurd (false≢true second)
transitive (x ∷ xs) (y ∷ ys) (z ∷ zs) first second =
    let less : ltb x z ≡ true → comes_before (x ∷ xs) (z ∷ zs) ≡ true = λ lt. or_left (ltb x z) (eqb x z && comes_before xs zs) lt in
    let later : comes_before xs ys ≡ true → comes_before ys zs ≡ true → comes_before xs zs ≡ true = transitive xs ys zs in
    ⊎_elim
    (λ lt.
    ⊎_elim
    (λ also. less (lt-ltb x z (omega (arith, ltb-true x y lt, ltb-true y z also))))
    (λ same. less (lt-ltb x z (omega (arith, ltb-true x y lt, eqb-true y z (and_parts (eqb y z) (comes_before ys zs) same).0))))
    (or_cases (ltb y z) (eqb y z && comes_before ys zs) second))
    (λ same.
    let mine = and_parts (eqb x y) (comes_before xs ys) same in
    ⊎_elim
    (λ lt. less (lt-ltb x z (omega (arith, eqb-true x y mine.0, ltb-true y z lt))))
    (λ also.
    let other = and_parts (eqb y z) (comes_before ys zs) also in
    or_right (ltb x z) (eqb x z && comes_before xs zs)
    (and_from (eqb x z) (comes_before xs zs) (eq-eqb x z (eqb-true x y mine.0 ∙ eqb-true y z other.0)) (later mine.1 other.1)))
    (or_cases (ltb y z) (eqb y z && comes_before ys zs) second))
    (or_cases (ltb x y) (eqb x y && comes_before xs ys) first)

irreflexive : (xs : List ℕ) → comes_before xs xs ≡ true → ⊥
irreflexive [] h = false≢true h
irreflexive (x ∷ xs) h =
    let later : comes_before xs xs ≡ true → ⊥ = irreflexive xs in
    ⊎_elim
    (λ lt. omega (arith, ltb-true x x lt))
    (λ same. later (and_parts (eqb x x) (comes_before xs xs) same).1)
    (or_cases (ltb x x) (eqb x x && comes_before xs xs) h)

-- an entry of the list that no other one comes before
pub record HasLeast (xs : List Entry) : Type 0 where
  pub entry : Entry
  pub listed : list_any (same_entry entry) xs ≡ true
  pub least : list_any (λ d. comes_before (rank d) (rank entry)) xs ≡ false

none_before : (d e : Entry) (xs : List Entry) → comes_before (rank d) (rank e) ≡ true → list_any (λ x. comes_before (rank x) (rank e)) xs ≡ false → list_any (λ x. comes_before (rank x) (rank d)) xs ≡ false
none_before d e [] before none = refl
none_before d e (x ∷ xs) before none =
    let later : list_any (λ y. comes_before (rank y) (rank e)) xs ≡ false → list_any (λ y. comes_before (rank y) (rank d)) xs ≡ false = none_before d e xs before in
    let both = or_parts (comes_before (rank x) (rank e)) (list_any (λ y. comes_before (rank y) (rank e)) xs) none in
    or_from (comes_before (rank x) (rank d)) (list_any (λ y. comes_before (rank y) (rank d)) xs)
    (false_from_ne_true (comes_before (rank x) (rank d)) (λ first. false≢true (sym both.0 ∙ transitive (rank x) (rank d) (rank e) first before)))
    (later both.1)

pub has_least : (d : Entry) (ds : List Entry) → HasLeast (d ∷ ds)
has_least d [] =
    record {
      entry = d;
      listed = or_left (same_entry d d) false (same_entry_refl d);
      least = or_from (comes_before (rank d) (rank d)) false (false_from_ne_true (comes_before (rank d) (rank d)) (irreflexive (rank d))) refl;
    }
has_least d (x ∷ xs) =
    let rest : HasLeast (x ∷ xs) = has_least x xs in
    ⊎_elim
    (λ before. record {
      entry = d;
      listed = or_left (same_entry d d) (list_any (same_entry d) (x ∷ xs)) (same_entry_refl d);
      least = or_from (comes_before (rank d) (rank d)) (list_any (λ y. comes_before (rank y) (rank d)) (x ∷ xs))
          (false_from_ne_true (comes_before (rank d) (rank d)) (irreflexive (rank d)))
          (none_before d rest.entry (x ∷ xs) before rest.least);
    })
    (λ not_before. record {
      entry = rest.entry;
      listed = or_right (same_entry rest.entry d) (list_any (same_entry rest.entry) (x ∷ xs)) rest.listed;
      least = or_from (comes_before (rank d) (rank rest.entry)) (list_any (λ y. comes_before (rank y) (rank rest.entry)) (x ∷ xs)) not_before rest.least;
    })
    (cases_Bool (comes_before (rank d) (rank rest.entry)))
