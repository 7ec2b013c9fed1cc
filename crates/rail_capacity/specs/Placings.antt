-- Placings of the blocking times that are taken, and the least one.
use Rattle.std.specs.Prelude.{◌≡◌, ℕ, ◌+◌, ◌-◌, ◌<◌, ◌≤◌, ◌⊎◌, List}
use Rattle.std.specs.List.{Contains}
use Rattle.rail_capacity.specs.declared.blocking_times.BlockingTime.{BlockingTime}

-- on one section, the second blocking time is the next after the first
pub record IsNext (blocks : List BlockingTime) (x y : BlockingTime) : Type 0 where
  pub first : Contains blocks x
  pub second : Contains blocks y
  pub section : x.section ≡ y.section
  pub order : x.begin < y.begin
  pub none_between : (z : BlockingTime) → Contains blocks z → z.section ≡ x.section → (z.begin ≤ x.begin) ⊎ (y.begin ≤ z.begin)

-- how long a blocking time is
abbrev pub duration : BlockingTime → ℕ
duration block = block.«end» - block.begin

-- a placing gives each blocking time its new begin. It is admissible where those of a train all move by one number, none begins before the window, and on each section each ends not after the next one, in the order of the run, begins
pub record IsAdmissible (blocks : List BlockingTime) (from : ℕ) (placed : BlockingTime → ℕ) : Type 0 where
  pub rigid : (x y : BlockingTime) → Contains blocks x → Contains blocks y → x.train ≡ y.train → placed x + y.begin ≡ placed y + x.begin
  pub within : (x : BlockingTime) → Contains blocks x → from ≤ placed x
  pub kept : (x y : BlockingTime) → IsNext blocks x y → placed x + duration x ≤ placed y

-- an admissible placing with no begin above that of any admissible placing
pub record IsLeast (blocks : List BlockingTime) (from : ℕ) (placed : BlockingTime → ℕ) : Type 0 where
  pub admissible : IsAdmissible blocks from placed
  pub least : (other : BlockingTime → ℕ) → IsAdmissible blocks from other → (x : BlockingTime) → Contains blocks x → placed x ≤ other x
