use Rattle.std.proofs.Common.{◌≡◌, ℕ, ◌+◌, ◌<◌, ◌≤◌, ◌∷◌, [], List, length, get_or, replicate, true, refl, sym, ap, ◌∙◌, subst, arith}
use Rattle.std.proofs.lemmas.List.{append-nil}
use Rattle.rail_base.specs.declared.limits.TheConstants.{OVERLAP_SECTIONS, ROUTE_SECTIONS, SECTIONS}
use Rattle.rail_rules.specs.Moves.{is_valid}
use Rattle.rail_rules.specs.Numbers.{is_in}
use Rattle.rail_place.specs.Tables.{joined, moves_in, row_lists}
use Rattle.rail_tests_calls.proofs.plants.push_lists.Goals as goal

-- moves without overlaps claim what they need
none : (needs : List (List ℕ)) → joined needs (replicate (length needs) []) ≡ needs
none [] = refl
none (need ∷ needs) = λ i. append-nil need i ∷ none needs i

pub push_train-requires-clause-narrow : goal.push_train-requires-clause-narrow
push_train-requires-clause-narrow c =
    let need : List (List ℕ) = c.in-Ok.need in
    let claims : joined need c.in-Ok-no_overlaps.over ≡ c.args.need.now =
    ap (joined need) (c.in-Ok-no_overlaps.ensures ∙ ap (λ n. replicate n []) c.len.ensures) ∙ none need ∙ c.in-Ok.ensures in
    let P : List (List ℕ) → Type 0 = λ n. (m : ℕ) → length (get_or n m []) ≤ ROUTE_SECTIONS + OVERLAP_SECTIONS in
    subst P (sym claims) (λ m. omega (arith, c.requires.narrow m))

pub push_train-requires-clause-in_range : goal.push_train-requires-clause-in_range
push_train-requires-clause-in_range c =
    let need : List (List ℕ) = c.in-Ok.need in
    let claims : joined need c.in-Ok-no_overlaps.over ≡ c.args.need.now =
    ap (joined need) (c.in-Ok-no_overlaps.ensures ∙ ap (λ n. replicate n []) c.len.ensures) ∙ none need ∙ c.in-Ok.ensures in
    let P : List (List ℕ) → Type 0 = λ n. (m x : ℕ) → is_in x (get_or n m []) ≡ true → x < SECTIONS in
    subst P (sym claims) c.requires.in_range

pub push_train-requires-clause-valid : goal.push_train-requires-clause-valid
push_train-requires-clause-valid c =
    let need : List (List ℕ) = c.in-Ok.need in
    let claims : joined need c.in-Ok-no_overlaps.over ≡ c.args.need.now =
    ap (joined need) (c.in-Ok-no_overlaps.ensures ∙ ap (λ n. replicate n []) c.len.ensures) ∙ none need ∙ c.in-Ok.ensures in
    let over : List (List ℕ) = c.in-Ok-no_overlaps.over in
    let P : List (List ℕ) → Type 0 = λ n. is_valid (moves_in (row_lists n over c.in-Ok-lists.stand ∷ [])) ≡ true in
    let Q : List (List ℕ) → Type 0 = λ n. is_valid (moves_in (row_lists c.args.need.now over n ∷ [])) ≡ true in
    subst P (sym claims) (subst Q (sym c.in-Ok-lists.ensures) c.requires.valid)
