-- A train stands on needed sections alone, and on none of an overlap.
use Rattle.std.proofs.Common.{◌≡◌, ℕ, zero, suc, ◌-◌, ◌<◌, ◌≤◌, Bool, true, false, not, ltb, leb, List, [], ◌∷◌, length, drop, sum_by, Option, Some, None, subst, ⊎_elim, arith, eqb}
use Rattle.std.proofs.lemmas.Bool.{cases_Bool, false≢true, cond-true, cond-false, or_right, ltb-true, and_left}
use Rattle.rail_base.specs.declared.plant.TurnRow.{TurnRow}
use Rattle.rail_rules.specs.Numbers.{is_in}
use Rattle.rail_rules.specs.Moves.{stand}
use Rattle.rail_rules.specs.Plant.{Plant, section, train, moves, moves_of, move_row, needed, steps, claims, step_section, shortest_end, from_turn, standing_after}
use Rattle.rail_rules.specs.Times.{is_admitted}
use Rattle.rail_rules.specs.Intervals.{does_stand, is_open}
use Rattle.rail_rules.proofs.CallerLemmas.{steps_claimed}
use Rattle.rail_laws_front.specs.Premises.{IsWellFormed}
use Rattle.rail_laws_front.proofs.Claimed.{needed_step}

end_in : (plant : Plant) (long : ℕ) (xs : List ℕ) (x : ℕ) → is_in x (shortest_end plant long xs) ≡ true → is_in x xs ≡ true
end_in plant long [] x h = h
end_in plant long (y ∷ ys) x h =
    let fits : Bool = leb long (sum_by (λ z. (section plant z).length) ys) in
    let P : List ℕ → Type 0 = λ zs. is_in x zs ≡ true in
    ⊎_elim
    (λ shorter. or_right (eqb y x) (is_in x ys) (end_in plant long ys x (subst P (cond-true fits (shortest_end plant long ys) (y ∷ ys) shorter) h)))
    (λ whole. subst P (cond-false fits (shortest_end plant long ys) (y ∷ ys) whole) h)
    (cases_Bool fits)

drop_in : (k : ℕ) (xs : List ℕ) (x : ℕ) → is_in x (drop k xs) ≡ true → is_in x xs ≡ true
drop_in zero xs x h = whole xs h
  where
    whole : (xs : List ℕ) → is_in x (drop 0 xs) ≡ true → is_in x xs ≡ true
    whole [] h = h
    whole (y ∷ ys) h = h
drop_in (suc k) [] x h = absurd (false≢true h)
drop_in (suc k) (y ∷ ys) x h = or_right (eqb y x) (is_in x ys) (drop_in k ys x h)

turn_in : (turn : Option TurnRow) (xs : List ℕ) (x : ℕ) → is_in x (from_turn turn xs) ≡ true → is_in x xs ≡ true
turn_in None xs x h = absurd (false≢true h)
turn_in (Some turn) xs x h = drop_in (turn.step - 1) xs x h

-- a train stands on sections that its move needs
pub stands_needed : (plant : Plant) (t m x : ℕ) → is_in x (standing_after plant t m) ≡ true → is_in x (needed plant t m) ≡ true
stands_needed plant t m x h =
    let xs : List ℕ = shortest_end plant (train plant t).kind.length (needed plant t m) in
    let ys : List ℕ = from_turn (move_row plant t m).turn (needed plant t m) in
    let P : List ℕ → Type 0 = λ zs. is_in x zs ≡ true in
    ⊎_elim
    (λ second. turn_in (move_row plant t m).turn (needed plant t m) x (subst P (cond-true (ltb (length xs) (length ys)) ys xs second) h))
    (λ first. end_in plant (train plant t).kind.length (needed plant t m) x (subst P (cond-false (ltb (length xs) (length ys)) ys xs first) h))
    (cases_Bool (ltb (length xs) (length ys)))

-- where it stands, its move isn't the last one
pub stands_inside : (plant : Plant) (t m x : ℕ) → is_in x (stand (moves_of plant) t (suc m)) ≡ true → (suc m < moves plant t) × (is_in x (standing_after plant t m) ≡ true)
stands_inside plant t m x h =
    let P : List ℕ → Type 0 = λ zs. is_in x zs ≡ true in
    ⊎_elim
    (λ more. (ltb-true (suc m) (moves plant t) more, subst P (cond-true (ltb (suc m) (moves plant t)) (standing_after plant t m) [] more) h))
    (λ last. absurd (false≢true (subst P (cond-false (ltb (suc m) (moves plant t)) (standing_after plant t m) [] last) h)))
    (cases_Bool (ltb (suc m) (moves plant t)))

module _ (plant : Plant) (fine : IsWellFormed plant) (t m j : ℕ) (over : steps plant t m ≤ j) (lj : j < claims plant t m) where
  -- nobody stands on an overlap
  pub over_not_stood : does_stand plant t m j ≡ false
  over_not_stood =
      ⊎_elim
      (λ stands.
      let inside = stands_inside plant t m (step_section plant t m j) stands in
      let found = needed_step plant t m (step_section plant t m j) (stands_needed plant t m (step_section plant t m j) inside.1) in
      let same : found.0 ≡ j = fine.distinct t m found.0 j (omega (arith, inside.0)) (omega (arith, found.1, steps_claimed plant t m)) lj found.2 in
      absurd (omega (arith, same, found.1, over)))
      (λ no. no)
      (cases_Bool (does_stand plant t m j))

  -- so its interval is never open
  pub over_not_open : (adms : List ℕ) → is_open plant t adms m j ≡ false
  over_not_open adms = and_left (does_stand plant t m j) (not (is_admitted adms (suc m))) over_not_stood
