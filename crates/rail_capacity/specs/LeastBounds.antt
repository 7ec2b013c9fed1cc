-- The bounds when none can be tightened any more, and the shifts that they are.
use Rattle.std.specs.Prelude.{ℕ, suc, cond, List, [], ◌∷◌, ◌≤◌, length}
use Rattle.rail_capacity.specs.declared.blocking_times.BlockingTime.{BlockingTime}
use Rattle.rail_capacity.specs.declared.shifts.Shift.{Shift}
use Rattle.rail_capacity.specs.declared.bounds.TrainBound.{TrainBound}
use Rattle.rail_capacity.specs.declared.gaps.Gap.{Gap}
use Rattle.rail_capacity.specs.Gaps.{AreGaps}
use Rattle.rail_capacity.specs.Bounds.{AreSettled}

-- the shifts of the trains that are present, of which the first in the table has this number
abbrev pub shifts_from : ℕ → List TrainBound → List Shift
shifts_from number [] = []
shifts_from number (bound ∷ table) = cond bound.present
    (record { train = number; earlier = bound.earlier; tight = bound.tight } ∷ shifts_from (suc number) table)
    (shifts_from (suc number) table)

-- the bounds of all trains are the least
pub record AreLeastBounds (blocks : List BlockingTime) (from : ℕ) (table : List TrainBound) : Type 0 where
  pub small : length table ≤ 65536
  pub gaps : List Gap
  pub are : AreGaps blocks gaps
  pub settled : AreSettled blocks from gaps table
