-- The table of moves that tables spell.
use Rattle.std.proofs.Common.{◌≡◌, ℕ, zero, suc, ◌+◌, ◌-◌, ◌<◌, ◌≤◌, Bool, true, ◌&&◌, cond, ltb, List, [], ◌∷◌, ◌++◌, length, get_or, map, None, refl, sym, ap, ◌∙◌, ⊎_elim, arith}
use Rattle.std.specs.List.{list_all}
use Rattle.std.proofs.lemmas.Bool.{cases_lt, false≢true, ltb-true}
use Rattle.std.proofs.lemmas.List.{length-append, length-map, get_or_past}
use Rattle.rail_base.specs.declared.limits.TheConstants.{OVERLAP_SECTIONS, ROUTE_SECTIONS, ITINERARY_ROUTES, SECTIONS}
use Rattle.rail_base.specs.declared.plant.Tables.{Tables}
use Rattle.rail_base.specs.declared.plant.TrainRow.{TrainRow}
use Rattle.rail_base.specs.declared.plant.MoveRow.{MoveRow}
use Rattle.rail_rules.specs.Numbers.{is_in, are_apart}
use Rattle.rail_rules.specs.Moves.{Moves, is_valid_move, is_valid}
use Rattle.rail_rules.specs.Plant.{Plant, no_train, no_move, train, moves, move_row, moves_of, needed, overlap, claimed, standing_after}
use Rattle.rail_rules.proofs.CallerLemmas.{all_below_from, list_all_at, move_in_range, row_in_range}
use Rattle.rail_place.specs.Tables.{joined, moves_in, MoveLists, no_lists}
use Rattle.rail_plan.specs.PlanFaults.{IsPlannable, bare, standing_of, fault_of_train}
use Rattle.rail_plan.specs.MoveTables.{needs_in, overs_in, spelled}
use Rattle.rail_plan.proofs.Valid.{valid_move}

pub get_or-map_all : {X Y : Type 0} (f : X → Y) (xs : List X) (i : ℕ) (d : X) → get_or (map f xs) i (f d) ≡ f (get_or xs i d)
get_or-map_all f [] i d = refl
get_or-map_all f (x ∷ xs) zero d = refl
get_or-map_all f (x ∷ xs) (suc i) d = get_or-map_all f xs i d

-- the sections that a move claims
abbrev pub claim : MoveRow → List ℕ
claim row = row.sections ++ row.overlap

-- together they are what the moves claim
claims_in : (moves : List MoveRow) → joined (needs_in moves) (overs_in moves) ≡ map claim moves
claims_in [] = refl
claims_in (row ∷ rows) = ap (λ rest. claim row ∷ rest) (claims_in rows)

claims_of : (plant : Plant) (row : TrainRow) → (spelled plant row).claims ≡ map claim row.moves
claims_of plant row = claims_in row.moves

row_is : (plant : Plant) (t : ℕ) → get_or (map (spelled plant) plant.tables.trains) t no_lists ≡ spelled plant (train plant t)
row_is plant t = get_or-map_all (spelled plant) plant.tables.trains t no_train

claim_is : (row : TrainRow) (m : ℕ) → get_or (map claim row.moves) m [] ≡ claim (get_or row.moves m no_move)
claim_is row m = get_or-map_all claim row.moves m no_move

stand_is : (plant : Plant) (row : TrainRow) (m : ℕ) → get_or (map (standing_of plant row.kind.length) row.moves) m [] ≡ standing_of plant row.kind.length (get_or row.moves m no_move)
stand_is plant row m = get_or-map_all (standing_of plant row.kind.length) row.moves m no_move

-- the table spells the moves of the plant
pub moves_spelled : (plant : Plant) → moves_in (map (spelled plant) plant.tables.trains) ≡ moves_of plant
moves_spelled plant =
    let counts : (t : ℕ) → length (get_or (map (spelled plant) plant.tables.trains) t no_lists).claims ≡ moves plant t =
    λ t. ap (λ (r : MoveLists). length r.claims) (row_is plant t) ∙ ap length (claims_of plant (train plant t)) ∙ length-map (train plant t).moves claim in
    let claims_are : (t m : ℕ) → get_or (get_or (map (spelled plant) plant.tables.trains) t no_lists).claims m [] ≡ claimed plant t m =
    λ t m. ap (λ (r : MoveLists). get_or r.claims m []) (row_is plant t) ∙ ap (λ xs. get_or xs m []) (claims_of plant (train plant t)) ∙ claim_is (train plant t) m in
    let stands_are : (t m : ℕ) → get_or (get_or (map (spelled plant) plant.tables.trains) t no_lists).stands m [] ≡ standing_after plant t m =
    λ t m. ap (λ (r : MoveLists). get_or r.stands m []) (row_is plant t) ∙ stand_is plant (train plant t) m in
    λ i. record {
      trains = length-map plant.tables.trains (spelled plant) i;
      moves = λ t. counts t i;
      claim = λ t m. claims_are t m i;
      standing = λ t m. stands_are t m i;
    }

-- what is asked of the row of a train
pub record IsSpelledRow (row : MoveLists) : Type 0 where
  pub short : length row.claims ≤ ITINERARY_ROUTES
  pub narrow : (m : ℕ) → length (get_or row.claims m []) ≤ ROUTE_SECTIONS + OVERLAP_SECTIONS
  pub in_range : (m x : ℕ) → is_in x (get_or row.claims m []) ≡ true → x < SECTIONS
  pub valid : is_valid (moves_in (row ∷ [])) ≡ true

-- the test of a move, by what is needed and where the train stands
move_test : ℕ → (ℕ → List ℕ) → (ℕ → List ℕ) → ℕ → Bool
move_test count need standing m =
    let sections : List ℕ = cond (ltb (suc m) count) (standing m) [] in
    ltb 0 (length sections) && list_all (λ x. is_in x (need m)) sections && are_apart (need (suc m)) sections

test_is : (plan : Moves) (t m : ℕ) → is_valid_move plan t m ≡ move_test (plan.moves t) (plan.claim t) (plan.standing t) m
unfolding move_test
test_is plan t m = refl

pub spelled_row : (tables : Tables) → IsPlannable tables → (t : ℕ) → fault_of_train (bare tables) t ≡ None → t < length tables.trains → IsSpelledRow (spelled (bare tables) (train (bare tables) t))
spelled_row tables h t none lt =
    let plant : Plant = bare tables in
    let row : TrainRow = train plant t in
    let facts = row_in_range (bare tables) h.trains t lt in
    let need : List (List ℕ) = (spelled plant row).claims in
    let spelt : (m : ℕ) → get_or need m [] ≡ claim (get_or row.moves m no_move) = λ m. ap (λ xs. get_or xs m []) (claims_of plant row) ∙ claim_is row m in
    let alone : List MoveLists = spelled plant row ∷ [] in
    let count : length need ≡ moves plant t = ap length (claims_of plant row) ∙ length-map row.moves claim in
    let fine = λ (m : ℕ) (lm : m < moves plant t). move_in_range (length tables.sections) (move_row plant t m) (facts.each_move m lm) in
    let past : (m : ℕ) → moves plant t ≤ m → get_or need m [] ≡ [] = λ m none_there. get_or_past need m [] (omega (arith, count)) in
    let same : (m : ℕ) → is_valid_move (moves_in alone) 0 m ≡ is_valid_move (moves_of plant) t m = λ m.
    test_is (moves_in alone) 0 m
    ∙ ap (λ n. move_test n (λ k. get_or need k []) (λ k. get_or (map (standing_of plant row.kind.length) row.moves) k []) m) count
    ∙ ap (λ f. move_test (moves plant t) f (λ k. get_or (map (standing_of plant row.kind.length) row.moves) k []) m) (λ i k. spelt k i)
    ∙ ap (λ f. move_test (moves plant t) (claimed plant t) f m) (λ i k. stand_is plant row k i)
    ∙ sym (test_is (moves_of plant) t m) in
    record {
      short = omega (arith, count, facts.few_moves);
      narrow = λ m. ⊎_elim
          (λ here. omega (arith, ap length (spelt m), length-append (needed plant t m) (overlap plant t m), (fine m here).few_steps, (fine m here).few_over))
          (λ gone. omega (arith, ap length (past m gone)))
          (cases_lt m (moves plant t));
      in_range = λ m x is. ⊎_elim
          (λ here. omega (arith, ltb-true x (length tables.sections) (list_all_at (λ y. ltb y (length tables.sections)) (claimed plant t m) x (fine m here).known (ap (is_in x) (sym (spelt m)) ∙ is)), h.few_sections))
          (λ gone. absurd (false≢true (ap (is_in x) (sym (past m gone)) ∙ is)))
          (cases_lt m (moves plant t));
      valid = all_below_from (is_valid_move (moves_in alone) 0) (length need - 1) (λ m lm. same m ∙ valid_move tables h t m none lt (omega (arith, count)));
    }
