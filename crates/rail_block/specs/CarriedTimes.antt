-- The times that are carried from move to move.
use Rattle.std.specs.Prelude.{◌≡◌, ℕ, zero, suc, ◌<◌, false, cond, nat_lt, List, Option, Some, None}
use Rattle.rail_rules.specs.Plant.{Plant, moves}
use Rattle.rail_rules.specs.Times.{admitted, is_admitted, passes, go, free_run, ready, ready_time}
use Rattle.rail_block.specs.declared.times.MoveTimes.{MoveTimes}

-- the times of a train's place, counted from 0, by its admissions: those of the move that leads there, and when it is
-- ready for the next one
abbrev pub times_at : Plant → ℕ → List ℕ → ℕ → MoveTimes
times_at plant t adms zero =
    record {
      admitted = 0;
      passes = false;
      go = 0;
      free_run = free_run plant t adms zero;
      next_ready = ready plant t adms zero;
    }
times_at plant t adms (suc m) = record {
  admitted = admitted adms m;
  passes = passes plant t adms m;
  go = go plant t adms m;
  free_run = free_run plant t adms (suc m);
  next_ready = cond (nat_lt (suc m) (moves plant t)) (ready plant t adms (suc m)) (free_run plant t adms (suc m));
}

-- the times of the place after, where its move is admitted
abbrev pub next_at : Plant → ℕ → List ℕ → ℕ → Option MoveTimes
next_at plant t adms place = cond (is_admitted adms place) (Some (times_at plant t adms (suc place))) None

-- the times of a place, with those of the place after where its move is admitted
pub record AreTimes (plant : Plant) (t : ℕ) (adms : List ℕ) (place : ℕ) (own : MoveTimes) (after : Option MoveTimes) : Type 0 where
  pub times : own ≡ times_at plant t adms place
  pub next : after ≡ next_at plant t adms place

-- each of the times is below the limit
pub record AreBelow (limit : ℕ) (times : MoveTimes) : Type 0 where
  pub admitted : times.admitted < limit
  pub go : times.go < limit
  pub free_run : times.free_run < limit
  pub next_ready : times.next_ready < limit

-- when the train is ready after a move, counted from 0, that was admitted at a time and ends at another; the end itself after the last move
abbrev pub ready_after : Plant → ℕ → ℕ → ℕ → ℕ → ℕ
ready_after plant t m at run = cond (nat_lt (suc m) (moves plant t)) (ready_time plant t (suc m) at run) run
