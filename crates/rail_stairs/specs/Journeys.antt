-- The admitted moves of a train, in the order of the stairway.
use Rattle.std.specs.Prelude.{◌≡◌, ℕ, ◌<◌, ◌≤◌, ◌^◌, List, ◌++◌, length, get_or}
use Rattle.rail_base.specs.declared.intervals.Interval.{Interval}
use Rattle.rail_block.specs.CarriedTimes.{AreBelow, times_at}
use Rattle.rail_block.specs.declared.times.MoveTimes.{MoveTimes}
use Rattle.rail_rules.specs.Numbers.{gather}
use Rattle.rail_rules.specs.Plant.{Plant, moves, trains}
use Rattle.rail_rules.specs.Times.{admitted, ready}
use Rattle.rail_stairs.specs.declared.stairs.Stairs.{Stairs}
use Rattle.rail_stairs.specs.NotedHistories.{noted_of}
use Rattle.rail_stairs.specs.Stairways.{move_intervals, step_intervals, train_intervals}

-- a train may have these admissions: no more than it has moves, none before its ready time, and all times are below 2^51
pub record AreAdmissible (plant : Plant) (t : ℕ) (adms : List ℕ) : Type 0 where
  pub few : length adms ≤ moves plant t
  pub ready : (m : ℕ) → m < length adms → ready plant t adms m ≤ admitted adms m
  pub below : (place : ℕ) → place ≤ length adms → AreBelow (2 ^ 51) (times_at plant t adms place)

-- each train of the plant may have the admissions that were noted of it
abbrev pub AreAllAdmissible : Plant → Stairs → Type 0
AreAllAdmissible plant stairs = (t : ℕ) → t < trains plant → AreAdmissible plant t (noted_of stairs t)

-- these are the times of the first places of a train, so many and that of its entry
abbrev pub AreTimesTo : Plant → ℕ → List ℕ → ℕ → List MoveTimes → Type 0
AreTimesTo plant t adms count times =
    (place : ℕ) → place ≤ count → (other : MoveTimes) → get_or times place other ≡ times_at plant t adms place

-- the intervals of the trains before this one
abbrev pub before_train : Plant → Stairs → ℕ → List Interval
before_train plant stairs t = gather (λ u. train_intervals plant u (noted_of stairs u)) t

-- the intervals before a move, counted from 0, of the train
abbrev pub before_move : Plant → Stairs → ℕ → ℕ → List Interval
before_move plant stairs t m = before_train plant stairs t ++ gather (move_intervals plant t (noted_of stairs t)) m

-- the intervals before a step of the move, both counted from 0
abbrev pub before_step : Plant → Stairs → ℕ → ℕ → ℕ → List Interval
before_step plant stairs t m j = before_move plant stairs t m ++ gather (step_intervals plant t (noted_of stairs t) m) j
