-- The bounds before any is tightened.
use Rattle.std.specs.Prelude.{◌≡◌, ℕ, ◌+◌, ◌-◌, ◌≤◌, true, false, not, ◌||◌, cond, nat_lt, List, slice_set}
use Rattle.std.specs.List.{Contains}
use Rattle.rail_capacity.specs.declared.blocking_times.BlockingTime.{BlockingTime}
use Rattle.rail_capacity.specs.declared.shifts.Tight.TheVariants.{Start}
use Rattle.rail_capacity.specs.declared.bounds.TrainBound.{TrainBound}
use Rattle.rail_capacity.specs.Bounds.{bound_of, limit_of, StartsAt}

-- the bound by which the blocking time begins with the window
abbrev pub entered_bound : List TrainBound → BlockingTime → ℕ → TrainBound
entered_bound table block from = record {
  present = true;
  fixed = (bound_of table block.train).fixed;
  earlier = block.begin - from;
  tight = (bound_of table block.train).tight;
}

-- the table with one more blocking time
abbrev pub with_block : List TrainBound → BlockingTime → ℕ → List TrainBound
with_block table block from =
    cond (not (bound_of table block.train).present || nat_lt (block.begin - from) (limit_of table block.train))
    (slice_set table block.train (entered_bound table block from)) table

-- each train with a blocking time may pass so much earlier that its first one begins with the window
pub record AreFirstBounds (from : ℕ) (blocks : List BlockingTime) (table : List TrainBound) : Type 0 where
  pub fresh : (t : ℕ) → (bound_of table t).fixed ≡ false
  pub free : (t : ℕ) → (bound_of table t).tight ≡ Start
  pub seen : (x : BlockingTime) → Contains blocks x → (bound_of table x.train).present ≡ true
  pub within : (x : BlockingTime) → Contains blocks x → from + limit_of table x.train ≤ x.begin
  pub first : (t : ℕ) → (bound_of table t).present ≡ true → StartsAt blocks from table t
