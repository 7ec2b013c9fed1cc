-- Names in order, of which no two are the same.
use Rattle.std.proofs.Common.{◌≡◌, ℕ, zero, suc, ◌+◌, ◌<◌, true, false, not, List, [], ◌∷◌, ◌++◌, length, get_or, map, take, refl, sym, ap, ◌∙◌, ⊎_elim, arith}
use Rattle.std.specs.List.{list_any}
use Rattle.std.specs.Cmp.Lexicographic.{bytes_decides}
use Rattle.std.proofs.lemmas.Bool.{and_parts, not-true, or_parts, or_from, cases_Bool, false≢true, cond-false}
use Rattle.std.proofs.lemmas.List.{map_more, get_or-map, length-map, take-map}
use Rattle.indexmap.specs.IndexSet.{insert_key}
use Rattle.rail_base.specs.NameForms.{same_name}
use Rattle.rail_rules.specs.Numbers.{same_numbers}
use Rattle.rail_rules.specs.Accepted.{are_distinct_names}

-- where no name is the same as this one, that at an index is another
other_at : (name : List ℕ) (names : List (List ℕ)) (i : ℕ) (d : List ℕ) → list_any (same_numbers name) names ≡ false → i < length names → same_name (get_or names i d) name ≡ false
other_at name [] i d none lt = absurd (omega arith)
other_at name (other ∷ names) zero d none lt =
    let differs = (or_parts (same_numbers name other) (list_any (same_numbers name) names) none).0 in
    ⊎_elim
    (λ same. let equal : other ≡ name = (bytes_decides other name).0 same in absurd (false≢true (sym differs ∙ (bytes_decides name other).1 (sym equal))))
    (λ different. different)
    (cases_Bool (same_name other name))
other_at name (other ∷ names) (suc i) d none lt =
    other_at name names i d (or_parts (same_numbers name other) (list_any (same_numbers name) names) none).1 (omega arith)

-- in a list of distinct names none stands before its index
pub new_at : (names : List (List ℕ)) (i : ℕ) (d : List ℕ) → are_distinct_names names ≡ true → i < length names → list_any (same_name (get_or names i d)) (take i names) ≡ false
new_at [] i d distinct lt = absurd (omega arith)
new_at (name ∷ names) zero d distinct lt = refl
new_at (name ∷ names) (suc i) d distinct lt =
    let parts = and_parts (not (list_any (same_numbers name) names)) (are_distinct_names names) distinct in
    or_from (same_name (get_or names i d) name) (list_any (same_name (get_or names i d)) (take i names))
    (other_at name names i d (not-true (list_any (same_numbers name) names) parts.0) (omega arith))
    (new_at names i d parts.1 (omega arith))

-- a set of the names before an index, with the name at the index
pub inserted : {X : Type 0} (f : X → List ℕ) (rows : List X) (i : ℕ) (row : X) (before after : List (List ℕ))
    → are_distinct_names (map f rows) ≡ true → i < length rows → row ≡ get_or rows i row
    → before ≡ map f (take i rows) → after ≡ insert_key same_name before (f row)
    → after ≡ map f (take (i + 1) rows)
inserted f rows i row before after distinct lt is at now =
    let name : get_or (map f rows) i (f row) ≡ f row = get_or-map f rows i row (f row) lt ∙ ap f (sym is) in
    let within : i < length (map f rows) = omega (arith, length-map rows f) in
    let new : list_any (same_name (f row)) before ≡ false =
    ap (λ ks. list_any (same_name (f row)) ks) (at ∙ sym (take-map f i rows))
    ∙ ap (λ k. list_any (same_name k) (take i (map f rows))) (sym name)
    ∙ new_at (map f rows) i (f row) distinct within in
    now
    ∙ cond-false (list_any (same_name (f row)) before) before (before ++ f row ∷ []) new
    ∙ ap (λ ks. ks ++ f row ∷ []) at
    ∙ ap (λ r. map f (take i rows) ++ f r ∷ []) is
    ∙ sym (map_more f rows i row lt)
