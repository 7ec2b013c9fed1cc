-- The times at which a train enters sections and arrives rise.
use Rattle.std.proofs.Common.{◌≡◌, ℕ, zero, suc, ◌<◌, ◌≤◌, List, sym, subst, ⊎_elim, arith}
use Rattle.std.proofs.lemmas.Bool.{cases_lt}
use Rattle.rail_rules.specs.Plant.{Plant, moves, steps}
use Rattle.rail_rules.specs.Times.{free_run, passes, go, enter, arrive}
use Rattle.rail_rules.proofs.CallerLemmas.{go_after_run, go_after_arrive, arrive_after_run, head_time-begun}
use Rattle.rail_laws_front.specs.Premises.{IsWellFormed}

module _ (plant : Plant) (fine : IsWellFormed plant) (t : ℕ) (adms : List ℕ) where
  -- each step takes time
  next_enter : (m j : ℕ) → m < moves plant t → j < steps plant t m → enter plant t adms m j < enter plant t adms m (suc j)
  next_enter m zero lm lj = omega (arith, fine.some_run t m 0 lm lj)
  next_enter m (suc j) lm lj = omega (arith, fine.some_run t m (suc j) lm lj)

  later_enter : (m j i : ℕ) → m < moves plant t → j < i → i ≤ steps plant t m → enter plant t adms m j < enter plant t adms m i
  later_enter m j zero lm lt li = absurd (omega arith)
  later_enter m j (suc i) lm lt li =
      let before : j < i → enter plant t adms m j < enter plant t adms m i = λ below. later_enter m j i lm below (omega (arith, li)) in
      ⊎_elim
      (λ below. omega (arith, before below, next_enter m i lm (omega (arith, li))))
      (λ here.
      let same : j ≡ i = omega (arith, lt, here) in
      let P : ℕ → Type 0 = λ k. enter plant t adms m k < enter plant t adms m (suc i) in
      subst P (sym same) (next_enter m i lm (omega (arith, li))))
      (cases_lt j i)

  -- the free running times rise with the places
  runs_rise : (m n : ℕ) → m ≤ n → free_run plant t adms m ≤ free_run plant t adms n
  runs_rise m zero le = let same : m ≡ 0 = omega (arith, le) in let P : ℕ → Type 0 = λ k. free_run plant t adms k ≤ free_run plant t adms 0 in subst P (sym same) (omega arith)
  runs_rise m (suc n) le =
      let before : m ≤ n → free_run plant t adms m ≤ free_run plant t adms n = λ less. runs_rise m n less in
      ⊎_elim
      (λ below.
      omega (arith, before (omega (arith, below)), go_after_run plant t adms n, head_time-begun plant t n (go plant t adms n) (passes plant t adms n) (steps plant t n)))
      (λ here.
      let same : m ≡ suc n = omega (arith, le, here) in
      let P : ℕ → Type 0 = λ k. free_run plant t adms k ≤ free_run plant t adms (suc n) in
      subst P (sym same) (omega arith))
      (cases_lt m (suc n))

  -- of two moves the earlier one enters its sections earlier
  pub enters_rise : (m j n i : ℕ) → m < n → m < moves plant t → j < steps plant t m → enter plant t adms m j < enter plant t adms n i
  enters_rise m j n i lt lm lj =
      omega (arith, later_enter m j (steps plant t m) lm lj (omega arith), runs_rise (suc m) n (omega (arith, lt)), go_after_run plant t adms n, head_time-begun plant t n (go plant t adms n) (passes plant t adms n) i)

  -- a step is told by its time
  pub one_enter : (m j n i : ℕ) → m < moves plant t → n < moves plant t → j < steps plant t m → i < steps plant t n → enter plant t adms m j ≡ enter plant t adms n i → (m ≡ n) × (j ≡ i)
  one_enter m j n i lm ln lj li same =
      ⊎_elim
      (λ less. absurd (omega (arith, same, enters_rise m j n i less lm lj)))
      (λ no_less. ⊎_elim
      (λ more. absurd (omega (arith, same, enters_rise n i m j more ln li)))
      (λ no_more.
      let one : m ≡ n = omega (arith, no_less, no_more) in
      let P : ℕ → Type 0 = λ k. j < steps plant t k in
      let Q : ℕ → Type 0 = λ k. enter plant t adms k j ≡ enter plant t adms n i in
      let here : enter plant t adms n j ≡ enter plant t adms n i = subst Q one same in (
        one,
        ⊎_elim
            (λ less. absurd (omega (arith, here, later_enter n j i ln less (omega (arith, li)))))
            (λ no_less_step. ⊎_elim
            (λ more. absurd (omega (arith, here, later_enter n i j ln more (omega (arith, subst P one lj)))))
            (λ no_more_step. omega (arith, no_less_step, no_more_step))
            (cases_lt i j))
            (cases_lt j i),
      ))
      (cases_lt n m))
      (cases_lt m n)

  arrives_rise : (m n : ℕ) → m < n → n < moves plant t → arrive plant t adms m < arrive plant t adms n
  arrives_rise m n lt ln =
      omega (
        arith,
        go_after_arrive plant t adms m (λ e. omega (arith, e, lt, ln)),
        later_enter (suc m) 0 (steps plant t (suc m)) (omega (arith, lt, ln)) (fine.some_step t (suc m) (omega (arith, lt, ln))) (omega arith),
        runs_rise (suc (suc m)) (suc n) (omega (arith, lt)),
        arrive_after_run plant t adms n,
      )

  pub one_arrival : (m n : ℕ) → m < moves plant t → n < moves plant t → arrive plant t adms m ≡ arrive plant t adms n → m ≡ n
  one_arrival m n lm ln same =
      ⊎_elim
      (λ less. absurd (omega (arith, same, arrives_rise m n less ln)))
      (λ no_less. ⊎_elim
      (λ more. absurd (omega (arith, same, arrives_rise n m more lm)))
      (λ no_more. omega (arith, no_less, no_more))
      (cases_lt n m))
      (cases_lt m n)
