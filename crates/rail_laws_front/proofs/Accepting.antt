-- A plant that may be run is fine.
use Rattle.std.proofs.Common.{◌≡◌, ℕ, zero, suc, ◌+◌, ◌-◌, ◌*◌, ◌<◌, min, Bool, true, not, eqb, ltb, leb, List, [], ◌∷◌, length, get_or, drop, sum_by, Option, Some, None, refl, sym, ap, ◌∙◌, subst, ⊎_elim, arith}
use Rattle.std.proofs.lemmas.Bool.{and_parts, or_right, cases_Bool, cases_lt, false≢true, ltb-true, leb-true, not-true, cond-true, cond-false}
use Rattle.std.proofs.lemmas.Nat.{le-div}
use Rattle.rail_base.specs.declared.plant.TurnRow.{TurnRow}
use Rattle.rail_rules.specs.Numbers.{is_in, quotient_up}
use Rattle.rail_rules.specs.Plant.{Plant, section, trains, train, moves, move_row, needed, claimed, steps, step_section, standing_after, shortest_end, from_turn, longer}
use Rattle.rail_rules.specs.Accepted.{are_distinct_numbers, is_accepted}
use Rattle.rail_rules.proofs.CallerLemmas.{is_in-head, needed_section, steps_claimed, IsMoveInRange, accepted_parts, list_all_get, move_in_range, row_in_range, section_in_range}
use Rattle.rail_laws_front.specs.Premises.{IsWellFormed}
use Rattle.rail_laws_front.proofs.Viewing.{no_moves}
use Rattle.rail_laws_front.proofs.Claimed.{get_or_is_in}

-- in a list without repetition an item has one index
pub distinct_indexes : (xs : List ℕ) (i j : ℕ) → are_distinct_numbers xs ≡ true → i < length xs → j < length xs → get_or xs i 0 ≡ get_or xs j 0 → i ≡ j
distinct_indexes [] i j h li lj same = absurd (omega arith)
distinct_indexes (x ∷ xs) zero zero h li lj same = refl
distinct_indexes (x ∷ xs) zero (suc j) h li lj same =
    let P : ℕ → Type 0 = λ y. is_in y xs ≡ true in
    absurd (false≢true (sym (not-true (is_in x xs) (and_parts (not (is_in x xs)) (are_distinct_numbers xs) h).0) ∙ subst P (sym same) (get_or_is_in xs j (omega arith))))
distinct_indexes (x ∷ xs) (suc i) zero h li lj same =
    let P : ℕ → Type 0 = λ y. is_in y xs ≡ true in
    absurd (false≢true (sym (not-true (is_in x xs) (and_parts (not (is_in x xs)) (are_distinct_numbers xs) h).0) ∙ subst P same (get_or_is_in xs i (omega arith))))
distinct_indexes (x ∷ xs) (suc i) (suc j) h li lj same =
    ap suc (distinct_indexes xs i j (and_parts (not (is_in x xs)) (are_distinct_numbers xs) h).1 (omega arith) (omega arith) same)

-- the last section of a route is in its shortest end that is as long as a train
last_in_end : (plant : Plant) (long : ℕ) (xs : List ℕ) → 0 < long → 0 < length xs → is_in (get_or xs (length xs - 1) 0) (shortest_end plant long xs) ≡ true
last_in_end plant long [] some lt = absurd (omega arith)
last_in_end plant long (x ∷ []) some lt =
    let P : List ℕ → Type 0 = λ ys. is_in x ys ≡ true in
    ⊎_elim
    (λ le. absurd (omega (arith, leb-true long 0 le)))
    (λ gt. subst P (sym (cond-false (leb long 0) [] (x ∷ []) gt)) (is_in-head x []))
    (cases_Bool (leb long 0))
last_in_end plant long (x ∷ y ∷ ys) some lt =
    let rest : List ℕ = y ∷ ys in
    let last : ℕ = get_or rest (length rest - 1) 0 in
    let same : get_or (x ∷ rest) (length (x ∷ rest) - 1) 0 ≡ last =
    (let P : ℕ → Type 0 = λ k. get_or (x ∷ rest) k 0 ≡ last in
    let index : suc (length rest - 1) ≡ length (x ∷ rest) - 1 = omega arith in
    subst P index refl) in
    let fits : Bool = leb long (sum_by (λ z. (section plant z).length) rest) in
    let Q : List ℕ → Type 0 = λ zs. is_in last zs ≡ true in
    let R : ℕ → Type 0 = λ z. is_in z (shortest_end plant long (x ∷ rest)) ≡ true in
    subst R (sym same)
    (⊎_elim
    (λ shorter. subst Q (sym (cond-true fits (shortest_end plant long rest) (x ∷ rest) shorter)) (last_in_end plant long (y ∷ ys) some (omega arith)))
    (λ whole. subst Q (sym (cond-false fits (shortest_end plant long rest) (x ∷ rest) whole)) (or_right (eqb x last) (is_in last rest) (get_or_is_in rest (length rest - 1) (omega arith))))
    (cases_Bool fits))

-- and in each end that has a section
last_in_drop : (xs : List ℕ) (k : ℕ) → 0 < length (drop k xs) → is_in (get_or xs (length xs - 1) 0) (drop k xs) ≡ true
last_in_drop [] zero lt = absurd (omega arith)
last_in_drop [] (suc k) lt = absurd (omega arith)
last_in_drop (x ∷ xs) zero lt = get_or_is_in (x ∷ xs) (length (x ∷ xs) - 1) (omega arith)
last_in_drop (x ∷ []) (suc k) lt = absurd (nothing k lt)
  where
    nothing : (k : ℕ) → 0 < length (drop {A = ℕ} k []) → ⊥
    nothing zero h = omega arith
    nothing (suc k) h = omega arith
last_in_drop (x ∷ y ∷ ys) (suc k) lt =
    let P : ℕ → Type 0 = λ i. is_in (get_or (x ∷ y ∷ ys) i 0) (drop k (y ∷ ys)) ≡ true in
    let index : suc (length (y ∷ ys) - 1) ≡ length (x ∷ y ∷ ys) - 1 = omega arith in
    subst P index (last_in_drop (y ∷ ys) k lt)

last_in_turn : (turn : Option TurnRow) (xs : List ℕ) → 0 < length (from_turn turn xs) → is_in (get_or xs (length xs - 1) 0) (from_turn turn xs) ≡ true
last_in_turn None xs lt = absurd (omega arith)
last_in_turn (Some turn) xs lt = last_in_drop xs (turn.step - 1) lt

last_in_longer : (x : ℕ) (xs ys : List ℕ) → is_in x xs ≡ true → (0 < length ys → is_in x ys ≡ true) → is_in x (longer xs ys) ≡ true
last_in_longer x xs ys in_xs in_ys =
    let P : List ℕ → Type 0 = λ zs. is_in x zs ≡ true in
    ⊎_elim
    (λ second. subst P (sym (cond-true (ltb (length xs) (length ys)) ys xs second)) (in_ys (omega (arith, ltb-true (length xs) (length ys) second))))
    (λ first. subst P (sym (cond-false (ltb (length xs) (length ys)) ys xs first)) in_xs)
    (cases_Bool (ltb (length xs) (length ys)))

-- a quotient that is rounded up is at least 1
pub quotient_up-positive : (a b : ℕ) → 0 < a → 0 < b → 0 < quotient_up a b
quotient_up-positive a b some_a some_b = le-div 1 (a + (b - 1)) b some_b (omega arith)

-- a train with a move is one of the plant's
pub known_train : (plant : Plant) (t m : ℕ) → m < moves plant t → t < trains plant
known_train plant t m lt = ⊎_elim (λ known. known) (λ past. absurd (omega (arith, no_moves plant t past))) (cases_lt t (trains plant))

pub well_formed_from_accepted : (plant : Plant) → is_accepted plant ≡ true → IsWellFormed plant
well_formed_from_accepted plant accepted =
    let h = accepted_parts plant accepted in
    let row : (t m : ℕ) → m < moves plant t → IsMoveInRange (length plant.tables.sections) (move_row plant t m) = λ t m lm.
    move_in_range (length plant.tables.sections) (move_row plant t m) ((row_in_range plant h.trains_in_range t (known_train plant t m lm)).each_move m lm) in
    record {
      valid = h.valid;
      some_move = λ t lt. (row_in_range plant h.trains_in_range t lt).some_move;
      some_step = λ t m lm. (row t m lm).some_step;
      some_setting = λ t m lm. (row t m lm).some_setting;
      distinct = λ t m i j lm li lj same. distinct_indexes (claimed plant t m) i j (row t m lm).distinct li lj same;
      last_stands = λ t m more.
          let here = row t m (omega arith) in
          let kind = (row_in_range plant h.trains_in_range t (known_train plant t m (omega arith))).kind in
          let P : ℕ → Type 0 = λ x. is_in x (standing_after plant t m) ≡ true in
          subst P (sym (needed_section plant t m (steps plant t m - 1) (omega (arith, here.some_step))))
          (last_in_longer (get_or (needed plant t m) (length (needed plant t m) - 1) 0) (shortest_end plant (train plant t).kind.length (needed plant t m)) (from_turn (move_row plant t m).turn (needed plant t m))
          (last_in_end plant (train plant t).kind.length (needed plant t m) kind.some_length here.some_step)
          (λ some. last_in_turn (move_row plant t m).turn (needed plant t m) some));
      some_run = λ t m j lm lj.
          let here = row t m lm in
          let kind = (row_in_range plant h.trains_in_range t (known_train plant t m lm)).kind in
          let x : ℕ = step_section plant t m j in
          let place = section_in_range plant h.sections x (ltb-true x (length plant.tables.sections) (list_all_get (λ y. ltb y (length plant.tables.sections)) (claimed plant t m) j 0 here.known (omega (arith, lj, steps_claimed plant t m)))) in
          quotient_up-positive (36 * (section plant x).length) (min (train plant t).kind.speed (section plant x).speed) (omega (arith, place.some_length)) (omega (arith, kind.some_speed, place.some_speed));
    }
