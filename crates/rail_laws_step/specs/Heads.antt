-- Which section the head of a train enters next.
use Rattle.std.specs.Prelude.{◌≡◌, ℕ, suc, ◌<◌, ◌≤◌, ◌==◌, Bool, false, ◌&&◌, ◌||◌, cond, nat_lt}
use Rattle.rail_base.specs.declared.history.What.{What}
use Rattle.rail_base.specs.declared.history.What.TheVariants.{Enter}
use Rattle.rail_rules.specs.Plant.{Plant, moves, steps}
use Rattle.rail_rules.specs.Fronts.{Front, admissions, stands}
use Rattle.rail_rules.specs.Causes.{place}
use Rattle.rail_rules.specs.Events.{enter_line}

-- Moves and steps are counted from 0.

-- the one step comes before the other on a train's way
abbrev pub is_before : ℕ → ℕ → ℕ → ℕ → Bool
is_before m j n i = nat_lt m n || ((m == n) && nat_lt j i)

-- the move of the step behind this one
abbrev pub next_move : Plant → ℕ → ℕ → ℕ → ℕ
next_move plant t n i = cond (nat_lt (suc i) (steps plant t n)) n (suc n)

-- the step behind this one: the next one of the move, else the first of the next move
abbrev pub next_step : Plant → ℕ → ℕ → ℕ → ℕ
next_step plant t n i = cond (nat_lt (suc i) (steps plant t n)) (suc i) 0

-- the head of the train has entered exactly the steps before step i of move n
pub record IsHead (plant : Plant) (front : Front) (t n i : ℕ) : Type 0 where
  pub reached : n ≤ place front t
  pub within : n < moves plant t → i < steps plant t n
  pub first : n ≡ place front t → i ≡ 0
  pub entered : (m j : ℕ) → m < place front t → j < steps plant t m
      → stands front (enter_line plant t (admissions front t) m j) ≡ is_before m j n i

-- the line is an enter line of the train
abbrev pub enters : ℕ → What → Bool
enters t (Enter u m x) = u == t
enters t _ = false
