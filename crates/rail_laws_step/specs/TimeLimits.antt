-- How far the times of a train reach.
use Rattle.std.specs.Prelude.{◌≡◌, ℕ, ◌<◌, ◌≤◌, false, List, length}
use Rattle.rail_rules.specs.Plant.{Plant, moves, steps, claims}
use Rattle.rail_rules.specs.Times.{admitted, free_run, depart_time, ready, go, enter, stop_at, arrive, out}
use Rattle.rail_rules.specs.Intervals.{is_open, end_time}

-- the times of the admitted moves of a train and of its next one are below a limit
pub record StaysBelow (limit : ℕ) (plant : Plant) (t : ℕ) (adms : List ℕ) : Type 0 where
  pub admission : (m : ℕ) → admitted adms m < limit
  pub run : (m : ℕ) → m ≤ length adms → free_run plant t adms m < limit
  pub departs : (m : ℕ) → m ≤ length adms → depart_time plant t m (free_run plant t adms m) < limit
  pub readies : (m : ℕ) → m ≤ length adms → m < moves plant t → ready plant t adms m < limit
  pub goes : (m : ℕ) → m < length adms → go plant t adms m < limit
  pub enters : (m j : ℕ) → m < length adms → j ≤ steps plant t m → enter plant t adms m j < limit
  pub stops : (m : ℕ) → m < length adms → stop_at plant t adms m < limit
  pub arrives : (m : ℕ) → m < length adms → arrive plant t adms m < limit
  pub ends : (m j : ℕ) → m < length adms → j < claims plant t m → is_open plant t adms m j ≡ false
      → end_time plant t adms m j < limit
  pub leaves : (m : ℕ) → m < length adms → out plant t adms m < limit
