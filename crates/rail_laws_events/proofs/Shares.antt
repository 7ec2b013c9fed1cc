-- How many event lines a train has.
use Rattle.std.proofs.Common.{◌≡◌, ℕ, suc, ◌+◌, ◌*◌, ◌<◌, ◌≤◌, min, Bool, true, false, not, cond, eqb, List, [], ◌∷◌, ◌++◌, length, Option, Some, None, refl, sym, ap, ◌∙◌, subst, ⊎_elim, arith, length-append}
use Rattle.std.proofs.lemmas.Bool.{cases_Bool, cases_lt, cond-true, cond-false, and_left, and_right, or_right, le-ltb, lt-ltb, not_from_true}
use Rattle.rail_base.specs.declared.history.Entry.{Entry}
use Rattle.rail_base.specs.declared.history.What.TheVariants.{Out}
use Rattle.rail_rules.specs.Numbers.{sum_below, gather, is_in}
use Rattle.rail_rules.specs.Plant.{Plant, moves, moves_of, steps, claims, step_section, move_lines}
use Rattle.rail_rules.specs.Fronts.{at_time}
use Rattle.rail_rules.specs.Times.{is_admitted, out}
use Rattle.rail_rules.specs.Intervals.{does_stand, is_open, is_taken_over, is_unfreed, end_time, freed_at}
use Rattle.rail_rules.specs.Events.{enter_line, arrive_line, free_lines, out_lines, ready_line, move_events, moved_events, ready_events, train_events}
use Rattle.rail_rules.proofs.CallerLemmas.{sum_below-le, sum_below_same, freed_from}
use Rattle.rail_laws_events.specs.Accounts.{tally}
use Rattle.rail_laws_events.proofs.Sums.{length-gather, sum-plus, sum-constant, sum-longer, sum-last, sum-whole}

pub tally_all : (xs : List Entry) → tally (λ _. true) xs ≡ length xs
tally_all [] = refl
tally_all (x ∷ xs) = omega (arith, tally_all xs)

module _ (plant : Plant) (t : ℕ) (adms : List ℕ) where
  frees_of : ℕ → List Entry
  frees_of m = gather (λ j. free_lines t (step_section plant t m j) (freed_at plant t adms m j)) (claims plant t m)

  few_frees : (o : Option ℕ) (x : ℕ) → length (free_lines t x o) ≤ 1
  few_frees None x = omega arith
  few_frees (Some time) x = omega arith

  frees_bound : (m : ℕ) → length (frees_of m) ≤ claims plant t m
  unfolding frees_of
  frees_bound m =
      omega (
        arith,
        length-gather (λ j. free_lines t (step_section plant t m j) (freed_at plant t adms m j)) (claims plant t m),
        sum_below-le (λ j. length (free_lines t (step_section plant t m j) (freed_at plant t adms m j))) (λ _. 1) (claims plant t m) (λ j _. few_frees (freed_at plant t adms m j) (step_section plant t m j)),
        sum-constant 1 (claims plant t m),
      )

  -- each section that is claimed has its free line, or is taken over
  frees_whole : (m : ℕ) → ((j : ℕ) → j < claims plant t m → is_open plant t adms m j ≡ false) → length (frees_of m) + sum_below (λ j. cond (is_taken_over plant t adms m j) 1 0) (claims plant t m) ≡ claims plant t m
  unfolding frees_of
  frees_whole m closed =
      let free : ℕ → ℕ = λ j. length (free_lines t (step_section plant t m j) (freed_at plant t adms m j)) in
      let taken : ℕ → ℕ = λ j. cond (is_taken_over plant t adms m j) 1 0 in
      omega (
        arith,
        length-gather (λ j. free_lines t (step_section plant t m j) (freed_at plant t adms m j)) (claims plant t m),
        sum-plus free taken (claims plant t m),
        sum_below_same (λ j. free j + taken j) (λ _. 1) (claims plant t m) (λ j lj. one_each m j (closed j lj)),
        sum-constant 1 (claims plant t m),
      )
    where
      one_each : (m j : ℕ) → is_open plant t adms m j ≡ false → length (free_lines t (step_section plant t m j) (freed_at plant t adms m j)) + cond (is_taken_over plant t adms m j) 1 0 ≡ 1
      one_each m j closed =
          ⊎_elim
          (λ taken.
          omega (
            arith,
            ap (λ o. length (free_lines t (step_section plant t m j) o)) (cond-true (is_unfreed plant t adms m j) None (Some (end_time plant t adms m j)) (or_right (is_open plant t adms m j) (is_taken_over plant t adms m j) taken)),
            cond-true {A = ℕ} (is_taken_over plant t adms m j) 1 0 taken,
          ))
          (λ untaken.
          omega (
            arith,
            ap (λ o. length (free_lines t (step_section plant t m j) o)) (cond-false (is_unfreed plant t adms m j) None (Some (end_time plant t adms m j)) (freed_from plant t adms m j closed untaken)),
            cond-false {A = ℕ} (is_taken_over plant t adms m j) 1 0 untaken,
          ))
          (cases_Bool (is_taken_over plant t adms m j))

  outs : (m : ℕ) → length (out_lines plant t adms m) ≡ cond (eqb (suc m) (moves plant t)) 1 0
  outs m = ⊎_elim
      (λ last. ap length (cond-true (eqb (suc m) (moves plant t)) (at_time (out plant t adms m) (Out t) ∷ []) [] last) ∙ sym (cond-true (eqb (suc m) (moves plant t)) 1 0 last))
      (λ more. ap length (cond-false (eqb (suc m) (moves plant t)) (at_time (out plant t adms m) (Out t) ∷ []) [] more) ∙ sym (cond-false (eqb (suc m) (moves plant t)) 1 0 more))
      (cases_Bool (eqb (suc m) (moves plant t)))

  enters_count : (m : ℕ) → length (gather (λ j. enter_line plant t adms m j ∷ []) (steps plant t m)) ≡ steps plant t m
  enters_count m = length-gather (λ j. enter_line plant t adms m j ∷ []) (steps plant t m) ∙ sum-constant 1 (steps plant t m) ∙ omega arith

  move_count : (m : ℕ) → length (move_events plant t adms m) ≡ steps plant t m + 1 + length (frees_of m) + cond (eqb (suc m) (moves plant t)) 1 0
  unfolding frees_of
  move_count m =
      let enters : List Entry = gather (λ j. enter_line plant t adms m j ∷ []) (steps plant t m) in
      let frees : List Entry = gather (λ j. free_lines t (step_section plant t m j) (freed_at plant t adms m j)) (claims plant t m) in
      omega (
        arith,
        length-append (enters ++ arrive_line plant t adms m ∷ [] ++ frees) (out_lines plant t adms m),
        length-append (enters ++ arrive_line plant t adms m ∷ []) frees,
        length-append enters (arrive_line plant t adms m ∷ []),
        enters_count m,
        outs m,
      )

  ready_count : length (ready_events plant t adms) ≡ min (suc (length adms)) (moves plant t)
  ready_count = length-gather (λ m. ready_line plant t adms m ∷ []) (min (suc (length adms)) (moves plant t)) ∙ sum-constant 1 (min (suc (length adms)) (moves plant t)) ∙ omega arith

  -- the share of a train in the bound
  shares : sum_below (move_lines plant t) (moves plant t) ≡ sum_below (λ m. steps plant t m + claims plant t m + 1) (moves plant t) + 2 * moves plant t
  shares =
      sum_below_same (move_lines plant t) (λ m. steps plant t m + claims plant t m + 1 + 2) (moves plant t) (λ m _. omega arith)
      ∙ sum-plus (λ m. steps plant t m + claims plant t m + 1) (λ _. 2) (moves plant t)
      ∙ omega (arith, sum-constant 2 (moves plant t))

  pub train_bound : length adms ≤ moves plant t → length (train_events plant t adms false) + length adms ≤ sum_below (move_lines plant t) (moves plant t) + 1
  train_bound few =
      let p : ℕ = length adms in
      let last : ℕ → ℕ = λ m. cond (eqb (suc m) (moves plant t)) 1 0 in
      let each : ℕ → ℕ = λ m. steps plant t m + claims plant t m + 1 in
      omega (
        arith,
        length-append (moved_events plant t adms) (ready_events plant t adms),
        ready_count,
        length-gather (move_events plant t adms) p,
        sum_below-le (λ m. length (move_events plant t adms m)) (λ m. each m + last m) p (λ m _. omega (arith, move_count m, frees_bound m)),
        sum-plus each last p,
        sum-last (moves plant t) p few,
        sum-longer each p (moves plant t) few,
        shares,
      )

  -- a train that has made all its moves has all event lines, but for the frees of what was taken over
  pub train_whole : length adms ≡ moves plant t → 0 < moves plant t
      → length (train_events plant t adms false) + length adms + sum_below (λ m. sum_below (λ j. cond (is_taken_over plant t adms m j) 1 0) (claims plant t m)) (length adms)
      ≡ sum_below (move_lines plant t) (moves plant t) + 1
  train_whole all some =
      let p : ℕ = length adms in
      let last : ℕ → ℕ = λ m. cond (eqb (suc m) (moves plant t)) 1 0 in
      let each : ℕ → ℕ = λ m. steps plant t m + claims plant t m + 1 in
      let taken : ℕ → ℕ = λ m. sum_below (λ j. cond (is_taken_over plant t adms m j) 1 0) (claims plant t m) in
      let P : ℕ → Type 0 = λ k. sum_below last k ≡ 1 in
      omega (
        arith,
        length-append (moved_events plant t adms) (ready_events plant t adms),
        ready_count,
        length-gather (move_events plant t adms) p,
        sum-plus (λ m. length (move_events plant t adms m)) taken p,
        sum_below_same (λ m. length (move_events plant t adms m) + taken m) (λ m. each m + last m) p (λ m lm. omega (arith, move_count m, frees_whole m (λ j _. all_closed m j lm))),
        sum-plus each last p,
        subst P (sym all) (sum-whole (moves plant t) some),
        ap (sum_below each) all,
        shares,
      )
    where
      all_closed : (m j : ℕ) → m < length adms → is_open plant t adms m j ≡ false
      all_closed m j lm =
          ⊎_elim
          (λ more. and_right (does_stand plant t m j) (not (is_admitted adms (suc m))) (not_from_true (is_admitted adms (suc m)) (lt-ltb (suc m) (length adms) (omega arith))))
          (λ last.
          let P : Bool → Type 0 = λ b. is_in (step_section plant t m j) (cond b ((moves_of plant).standing t m) []) ≡ false in
          and_left (does_stand plant t m j) (not (is_admitted adms (suc m))) (subst P (sym (le-ltb (suc m) (moves plant t) last)) refl))
          (cases_lt (suc m) (moves plant t))
