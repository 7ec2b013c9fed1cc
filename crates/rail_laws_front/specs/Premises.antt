-- What the laws of lawful histories need of a plant.
use Rattle.std.specs.Prelude.{◌≡◌, ℕ, suc, ◌-◌, ◌<◌, true}
use Rattle.rail_rules.specs.Numbers.{is_in}
use Rattle.rail_rules.specs.Moves.{is_valid}
use Rattle.rail_rules.specs.Plant.{Plant, section, trains, train, moves, moves_of, move_row, steps, claims, step_section, standing_after, run_time}

-- the plant is valid; each train has a move; each move has a step and a setting time, and claims no
-- section twice; a train stands on the last section of a move; running and clearing take time
pub record IsWellFormed (plant : Plant) : Type 0 where
  pub valid : is_valid (moves_of plant) ≡ true
  pub some_move : (t : ℕ) → t < trains plant → 0 < moves plant t
  pub some_step : (t m : ℕ) → m < moves plant t → 0 < steps plant t m
  pub some_setting : (t m : ℕ) → m < moves plant t → 0 < (move_row plant t m).setting
  pub distinct : (t m i j : ℕ) → m < moves plant t → i < claims plant t m → j < claims plant t m
      → step_section plant t m i ≡ step_section plant t m j → i ≡ j
  pub last_stands : (t m : ℕ) → suc m < moves plant t
      → is_in (step_section plant t m (steps plant t m - 1)) (standing_after plant t m) ≡ true
  pub some_run : (t m j : ℕ) → m < moves plant t → j < steps plant t m
      → 0 < run_time (train plant t).kind (section plant (step_section plant t m j))
