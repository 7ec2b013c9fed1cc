-- What stands before a step, a move and a train in the stairway.
use Rattle.std.proofs.Common.{◌≡◌, ℕ, ◌+◌, ◌++◌, length, add-one, sym, ap, ◌∙◌, append_assoc}
use Rattle.rail_rules.specs.Numbers.{gather}
use Rattle.rail_rules.specs.Plant.{Plant, claims}
use Rattle.rail_stairs.specs.declared.stairs.Stairs.{Stairs}
use Rattle.rail_stairs.specs.Journeys.{before_move, before_step, before_train}
use Rattle.rail_stairs.specs.NotedHistories.{noted_of}
use Rattle.rail_stairs.specs.Stairways.{move_intervals, step_intervals}

-- before the next step stands the interval of the step, where it has one
pub step_more : (plant : Plant) (stairs : Stairs) (t m j : ℕ)
    → before_step plant stairs t m j ++ step_intervals plant t (noted_of stairs t) m j ≡ before_step plant stairs t m (j + 1)
step_more plant stairs t m j =
    append_assoc (before_move plant stairs t m) (gather (step_intervals plant t (noted_of stairs t) m) j) (step_intervals plant t (noted_of stairs t) m j)
    ∙ ap (λ n. before_step plant stairs t m n) (sym (add-one j))

-- before the next move stand the intervals of all steps of the move
pub move_more : (plant : Plant) (stairs : Stairs) (t m : ℕ) → before_step plant stairs t m (claims plant t m) ≡ before_move plant stairs t (m + 1)
move_more plant stairs t m =
    append_assoc (before_train plant stairs t) (gather (move_intervals plant t (noted_of stairs t)) m) (move_intervals plant t (noted_of stairs t) m)
    ∙ ap (λ n. before_move plant stairs t n) (sym (add-one m))

-- before the next train stand the moves of the train
pub train_more : (plant : Plant) (stairs : Stairs) (t : ℕ) → before_move plant stairs t (length (noted_of stairs t)) ≡ before_train plant stairs (t + 1)
train_more plant stairs t = ap (λ n. before_train plant stairs n) (sym (add-one t))
