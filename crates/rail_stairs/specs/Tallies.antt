-- The table of the sections.
use Rattle.std.specs.Prelude.{◌≡◌, ℕ, ◌*◌, ◌<◌, ◌≤◌, ◌^◌, List, length, get_or}
use Rattle.rail_base.specs.declared.intervals.Interval.{Interval}
use Rattle.rail_base.specs.declared.limits.TheConstants.{SECTIONS}
use Rattle.rail_stairs.specs.declared.tallies.Tallies.{Tallies}
use Rattle.rail_stairs.specs.Stairways.{occupation, visits}

-- the table counts these intervals: for each section how many there are, and how long it is occupied by them; each
-- of them is shorter than 2^64
pub record IsTallied (ended : ℕ) (seen : List Interval) (tallies : Tallies) : Type 0 where
  pub sections : length tallies.visits ≡ SECTIONS
  pub sums : length tallies.occupied ≡ SECTIONS
  pub visits : (x : ℕ) → x < SECTIONS → get_or tallies.visits x 0 ≡ visits seen x
  pub occupied : (x : ℕ) → x < SECTIONS → get_or tallies.occupied x 0 ≡ occupation ended seen x
  pub few : (x : ℕ) → x < SECTIONS → get_or tallies.visits x 0 ≤ length seen
  pub short : (x : ℕ) → x < SECTIONS → get_or tallies.occupied x 0 ≤ length seen * 2 ^ 64
