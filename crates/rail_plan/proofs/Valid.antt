-- Tables without a fault give valid moves.
use Rattle.std.proofs.Common.{◌≡◌, ℕ, zero, suc, ◌-◌, ◌<◌, min, Bool, true, false, ◌&&◌, ◌||◌, cond, leb, ltb, eqb, List, [], ◌∷◌, ◌++◌, length, drop, Option, Some, None, refl, sym, ap, ◌∙◌, subst, ⊎_elim, arith}
use Rattle.std.specs.List.{find, list_any, list_all}
use Rattle.std.proofs.lemmas.Bool.{and_from, cases_Bool, cond-true, cond-false, false≢true, lt-leb, lt-ltb, or_cases, or_left, or_right, not-false, not_from_false}
use Rattle.std.proofs.lemmas.List.{length-drop}
use Rattle.rail_base.specs.declared.plant.Tables.{Tables}
use Rattle.rail_base.specs.declared.plant.MoveRow.{MoveRow}
use Rattle.rail_base.specs.declared.plant.TurnRow.{TurnRow}
use Rattle.rail_rules.specs.Numbers.{all_below, is_in, are_apart}
use Rattle.rail_rules.specs.Moves.{Moves, stand, is_valid_move, is_valid}
use Rattle.rail_rules.specs.Plant.{Plant, train, moves, move_row, moves_of, needed, overlap, claimed, standing_after, shortest_end, from_turn, longer}
use Rattle.rail_rules.specs.Accepted.{does_fit}
use Rattle.rail_rules.proofs.CallerLemmas.{all_below_from, is_in-head, move_in_range, row_in_range}
use Rattle.rail_plan.specs.declared.faults.PlanFault.{PlanFault}
use Rattle.rail_plan.specs.declared.faults.PlanFault.TheVariants.{TooLong}
use Rattle.rail_plan.specs.PlanFaults.{IsPlannable, bare, metres_of, standing_of, is_too_long, blocking, blocked_by, fault_at, fault_of_train, fault_of}
use Rattle.rail_plan.proofs.Firsts.{none_at, parts_none}
use Rattle.rail_plan.proofs.Standings.{longer-drops, longer-none}

-- what is found nowhere is in no place
find-none : (p : ℕ → Bool) (xs : List ℕ) → find p xs ≡ None → list_any p xs ≡ false
find-none p [] none = refl
find-none p (x ∷ xs) none =
    ⊎_elim
    (λ yes. absurd (cc (cond-true (p x) (Some x) (find p xs) yes)))
    (λ no. ap (λ b. b || list_any p xs) no ∙ find-none p xs (sym (cond-false (p x) (Some x) (find p xs) no) ∙ none))
    (cases_Bool (p x))

is_in-drop : (x : ℕ) (xs : List ℕ) (k : ℕ) → is_in x (drop k xs) ≡ true → is_in x xs ≡ true
is_in-drop x xs zero is = is
is_in-drop x [] (suc k) is = is
is_in-drop x (y ∷ ys) (suc k) is = or_right (eqb y x) (is_in x ys) (is_in-drop x ys k is)

is_in-joined : (x : ℕ) (xs ys : List ℕ) → is_in x xs ≡ true → is_in x (xs ++ ys) ≡ true
is_in-joined x [] ys is = absurd (false≢true is)
is_in-joined x (y ∷ xs) ys is =
    ⊎_elim
    (λ first. or_left (eqb y x) (is_in x (xs ++ ys)) first)
    (λ later. or_right (eqb y x) (is_in x (xs ++ ys)) (is_in-joined x xs ys later))
    (or_cases (eqb y x) (is_in x xs) is)

list_all_from : (p : ℕ → Bool) (xs : List ℕ) → ((x : ℕ) → is_in x xs ≡ true → p x ≡ true) → list_all p xs ≡ true
list_all_from p [] h = refl
list_all_from p (x ∷ xs) h = and_from (p x) (list_all p xs) (h x (is_in-head x xs)) (list_all_from p xs (λ y is. h y (or_right (eqb x y) (is_in y xs) is)))

-- the shortest end of a route is an end with a section
pub end_is_drop : (plant : Plant) (metres : ℕ) (xs : List ℕ) → 0 < metres → 0 < length xs → (k : ℕ) × (k < length xs) × (shortest_end plant metres xs ≡ drop k xs)
end_is_drop plant metres [] some lt = absurd (omega arith)
end_is_drop plant metres (x ∷ []) some lt = (0, omega arith, cond-false (leb metres 0) [] (x ∷ []) (lt-leb metres 0 some))
end_is_drop plant metres (x ∷ y ∷ ys) some lt =
    let rest : List ℕ = y ∷ ys in
    let later = end_is_drop plant metres (y ∷ ys) some (omega arith) in
    let enough : Bool = leb metres (metres_of plant rest) in
    ⊎_elim
    (λ yes. (suc later.0, omega (arith, later.1), cond-true enough (shortest_end plant metres rest) (x ∷ rest) yes ∙ later.2))
    (λ no. (0, omega arith, cond-false enough (shortest_end plant metres rest) (x ∷ rest) no))
    (cases_Bool enough)

-- so is the standing set
turned : (xs ends : List ℕ) (turn : Option TurnRow) (k : ℕ) → k < length xs → ends ≡ drop k xs → (j : ℕ) × (j < length xs) × (longer ends (from_turn turn xs) ≡ drop j xs)
turned xs ends None k lt is = (k, lt, longer-none ends ∙ is)
turned xs ends (Some turn) k lt is =
    (min k (turn.step - 1), omega arith, ap (λ ys. longer ys (drop (turn.step - 1) xs)) is ∙ longer-drops xs k (turn.step - 1) (omega arith))

pub standing_is_drop : (plant : Plant) (metres : ℕ) (row : MoveRow) → 0 < metres → 0 < length row.sections → (k : ℕ) × (k < length row.sections) × (standing_of plant metres row ≡ drop k row.sections)
standing_is_drop plant metres row some lt =
    let end = end_is_drop plant metres row.sections some lt in
    turned row.sections (shortest_end plant metres row.sections) row.turn end.0 end.1 end.2

-- no fault at a place: the train is not too long, and does not block its own way
no_long : (plant : Plant) (t m : ℕ) → fault_at plant t m ≡ None → is_too_long plant t m ≡ false
no_long plant t m none =
    let fault : Option PlanFault = cond (is_too_long plant t m) (Some (TooLong t (suc m))) None in
    let first = (parts_none fault (blocked_by t (suc m) (blocking plant t m)) none).0 in
    ⊎_elim
    (λ yes. absurd (cc (cond-true (is_too_long plant t m) (Some (TooLong t (suc m))) None yes)))
    (λ no. no)
    (cases_Bool (is_too_long plant t m))

no_block : (t place : ℕ) (o : Option ℕ) → blocked_by t place o ≡ None → o ≡ None
no_block t place None none = refl
no_block t place (Some x) none = absurd (cc)

no_common : (plant : Plant) (t m : ℕ) → fault_at plant t m ≡ None → are_apart (claimed plant t (suc m)) (standing_after plant t m) ≡ true
no_common plant t m none =
    let fault : Option PlanFault = cond (is_too_long plant t m) (Some (TooLong t (suc m))) None in
    let second = (parts_none fault (blocked_by t (suc m) (blocking plant t m)) none).1 in
    let test : ℕ → Bool = λ x. is_in x (standing_after plant t m) in
    not_from_false (list_any test (claimed plant t (suc m))) (find-none test (claimed plant t (suc m)) (no_block t (suc m) (blocking plant t m) second))

-- tables without a fault have none of a train
none_of : (tables : Tables) (t : ℕ) → fault_of tables ≡ None → t < length tables.trains → fault_of_train (bare tables) t ≡ None
none_of tables t none lt = none_at (fault_of_train (bare tables)) (length tables.trains) t none lt

no_fault_at : (tables : Tables) (t m : ℕ) → fault_of_train (bare tables) t ≡ None → m < moves (bare tables) t - 1 → fault_at (bare tables) t m ≡ None
no_fault_at tables t m none more = none_at (fault_at (bare tables) t) (moves (bare tables) t - 1) m none more

pub each_fits : (tables : Tables) → fault_of tables ≡ None → all_below (does_fit (bare tables)) (length tables.trains) ≡ true
each_fits tables none =
    let plant : Plant = bare tables in
    all_below_from (does_fit plant) (length tables.trains) (λ t lt.
    let fits : ℕ → Bool = λ m. leb (train plant t).kind.length (metres_of plant (needed plant t m)) in
    all_below_from fits (moves plant t - 1) (λ m lm. not-false (fits m) (no_long plant t m (no_fault_at tables t m (none_of tables t none lt) lm))))

pub valid_move : (tables : Tables) → IsPlannable tables → (t m : ℕ) → fault_of_train (bare tables) t ≡ None → t < length tables.trains → m < moves (bare tables) t - 1 → is_valid_move (moves_of (bare tables)) t m ≡ true
valid_move tables h t m none lt more =
    let plant : Plant = bare tables in
    let row = row_in_range (bare tables) h.trains t lt in
    let fine = move_in_range (length tables.sections) (move_row plant t m) (row.each_move m (omega arith)) in
    let end = standing_is_drop plant (train plant t).kind.length (move_row plant t m) row.kind.some_length fine.some_step in
    let stands : List ℕ = standing_after plant t m in
    let some : 0 < length stands = omega (arith, ap length end.2, length-drop end.0 (needed plant t m), end.1) in
    let inner : (x : ℕ) → is_in x stands ≡ true → is_in x (claimed plant t m) ≡ true = λ x is. is_in-joined x (needed plant t m) (overlap plant t m) (is_in-drop x (needed plant t m) end.0 (ap (is_in x) (sym end.2) ∙ is)) in
    let there : stand (moves_of plant) t (suc m) ≡ stands = cond-true (ltb (suc m) (moves plant t)) stands [] (lt-ltb (suc m) (moves plant t) (omega arith)) in
    let P : List ℕ → Type 0 = λ xs. (ltb 0 (length xs) && list_all (λ x. is_in x (claimed plant t m)) xs && are_apart (claimed plant t (suc m)) xs) ≡ true in
    subst P (sym there)
    (and_from (ltb 0 (length stands) && list_all (λ x. is_in x (claimed plant t m)) stands) (are_apart (claimed plant t (suc m)) stands)
    (and_from (ltb 0 (length stands)) (list_all (λ x. is_in x (claimed plant t m)) stands) (lt-ltb 0 (length stands) some) (list_all_from (λ x. is_in x (claimed plant t m)) stands inner))
    (no_common plant t m (no_fault_at tables t m none more)))

pub valid : (tables : Tables) → IsPlannable tables → fault_of tables ≡ None → is_valid (moves_of (bare tables)) ≡ true
valid tables h none =
    let plan : Moves = moves_of (bare tables) in
    let each : ℕ → Bool = λ t. all_below (is_valid_move plan t) (moves (bare tables) t - 1) in
    all_below_from each (length tables.trains) (λ t lt. all_below_from (is_valid_move plan t) (moves (bare tables) t - 1) (λ m lm. valid_move tables h t m (none_of tables t none lt) lt lm))
