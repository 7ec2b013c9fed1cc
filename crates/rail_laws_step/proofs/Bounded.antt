-- How far the times of a train reach in a lawful front.
use Rattle.std.proofs.Common.{◌≡◌, ℕ, zero, suc, ◌+◌, ◌<◌, ◌≤◌, ◌^◌, true, List, length, ⊎_elim, arith}
use Rattle.std.proofs.lemmas.List.{get_or_past}
use Rattle.std.proofs.lemmas.Bool.{cases_lt}
use Rattle.rail_rules.specs.Plant.{Plant, trains, moves}
use Rattle.rail_rules.specs.Fronts.{Front, admissions}
use Rattle.rail_rules.specs.Orders.{Input}
use Rattle.rail_rules.specs.Times.{admitted, previous, free_run}
use Rattle.rail_rules.specs.Accepted.{is_accepted_input}
use Rattle.rail_rules.specs.Lawful.{is_lawful}
use Rattle.rail_laws_front.specs.Premises.{IsWellFormed}
use Rattle.rail_laws_front.proofs.CallerLemmas.{well_formed_from_accepted}
use Rattle.rail_laws_events.proofs.CallerLemmas.{few_admissions, IsLimited, limited, Reaches, reaches, input_parts, depart_within, ready_within, go_within, enter_within, arrive_within, end_within, out_within}
use Rattle.rail_laws_step.specs.TimeLimits.{StaysBelow}

-- the admission before each move is as near
previous_near : (adms : List ℕ) (far : ℕ) → ((m : ℕ) → admitted adms m ≤ far) → (m : ℕ) → previous adms m ≤ far
previous_near adms far near zero = omega arith
previous_near adms far near (suc m) = near m

pub stays_below : (input : Input) → is_accepted_input input ≡ true → (front : Front) (t : ℕ) → is_lawful input front ≡ true → t < trains input.plant → StaysBelow (2 ^ 51) input.plant t (admissions front t)
stays_below input accepted front t lawful known =
    let plant : Plant = input.plant in
    let adms : List ℕ = admissions front t in
    let accepts = (input_parts input accepted).0 in
    let fine : IsWellFormed plant = well_formed_from_accepted plant accepts in
    let h : IsLimited plant = limited plant accepts in
    let far : Reaches plant front = reaches input accepted front lawful in
    let few : length adms ≤ moves plant t = few_admissions input fine front lawful t known in
    let v : ℕ = 4063240640000 in
    let high : 8640000 ≤ v = omega arith in
    let runs : (m : ℕ) → m ≤ length adms → free_run plant t adms m ≤ v = λ m le. far.run t m known le in
    let admission : (m : ℕ) → admitted adms m ≤ v + 8646000 = λ m.
    ⊎_elim (λ lt. far.admission t m lt) (λ past. omega (arith, get_or_past adms m 0 past)) (cases_lt m (length adms)) in
    let before : (m : ℕ) → previous adms m ≤ v + 8646000 = λ m. previous_near adms (v + 8646000) admission m in
    record {
      admission = λ m. omega (arith, admission m);
      run = λ m le. omega (arith, runs m le);
      departs = λ m le. omega (arith, depart_within plant fine h t known adms few v high runs m (free_run plant t adms m) (omega (arith, le, few)) (runs m le));
      readies = λ m le room. omega (arith, ready_within plant fine h t known adms few v high runs m le (before m));
      goes = λ m lt. omega (arith, go_within plant fine h t known adms few v high runs m lt);
      enters = λ m j lt le. omega (arith, enter_within plant fine h t known adms few v high runs m j lt le);
      stops = λ m lt. omega (arith, runs (suc m) (omega (arith, lt)), h.stop t known);
      arrives = λ m lt. omega (arith, arrive_within plant fine h t known adms few v high runs m lt);
      ends = λ m j lt lj closed. omega (arith, end_within plant fine h t known adms few v high runs m j lt closed);
      leaves = λ m lt. omega (arith, out_within plant fine h t known adms few v high runs m lt);
    }
