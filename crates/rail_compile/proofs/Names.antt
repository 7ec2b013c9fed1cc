-- Names of items, of which no two are the same.
use Rattle.std.proofs.Common.{◌≡◌, ℕ, true, not, List, [], ◌∷◌, map, refl, ap, ◌∙◌}
use Rattle.std.specs.List.{list_any}
use Rattle.std.proofs.lemmas.Bool.{and_parts, and_from}
use Rattle.rail_base.specs.NameForms.{same_name}
use Rattle.rail_rules.specs.Numbers.{same_numbers}
use Rattle.rail_rules.specs.Accepted.{are_distinct_names}
use Rattle.rail_base.specs.Lists.{are_distinct}
use Rattle.rail_track.proofs.CallerLemmas.{list_any-map}

-- items of different names have distinct names
pub distinct_from_apart : {X : Type 0} (f : X → List ℕ) (xs : List X) → are_distinct (λ x y. same_name (f x) (f y)) xs ≡ true → are_distinct_names (map f xs) ≡ true
distinct_from_apart f [] apart = refl
distinct_from_apart f (x ∷ xs) apart =
    let parts = and_parts (not (list_any (λ y. same_name (f x) (f y)) xs)) (are_distinct (λ y z. same_name (f y) (f z)) xs) apart in
    and_from (not (list_any (same_numbers (f x)) (map f xs))) (are_distinct_names (map f xs))
    (ap not (list_any-map (same_name (f x)) f xs) ∙ parts.0)
    (distinct_from_apart f xs parts.1)
