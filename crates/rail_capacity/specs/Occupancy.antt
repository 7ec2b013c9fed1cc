-- How long the compressed line is occupied: a copy of the first train is appended as early as possible.
use Rattle.std.specs.Prelude.{◌≡◌, ℕ, ◌+◌, ◌<◌, ◌≤◌, ◌⊎◌, List, []}
use Rattle.std.specs.List.{Contains}
use Rattle.rail_capacity.specs.declared.blocking_times.BlockingTime.{BlockingTime}

-- the blocking time begins first, that of the least train where several do
pub record IsFirstBlock (blocks : List BlockingTime) (block : BlockingTime) : Type 0 where
  pub taken : Contains blocks block
  pub first : (x : BlockingTime) → Contains blocks x → (block.begin < x.begin) ⊎ ((block.begin ≡ x.begin) × (block.train ≤ x.train))

-- the train is that of the blocking time that begins first
pub record IsFirst (blocks : List BlockingTime) (train : ℕ) : Type 0 where
  pub block : BlockingTime
  pub is : IsFirstBlock blocks block
  pub train_is : block.train ≡ train

-- a copy of the train, so much later, begins on each section not before any blocking time there ends
abbrev pub HasRoom : List BlockingTime → ℕ → ℕ → Type 0
HasRoom blocks train later =
    (x y : BlockingTime) → Contains blocks x → Contains blocks y → y.train ≡ train → x.section ≡ y.section
    → x.«end» ≤ y.begin + later

-- the occupancy time: how much later the copy of the first train begins than that train; 0 where there is none
pub record IsOccupancy (blocks : List BlockingTime) (occupancy : ℕ) : Type 0 where
  pub empty : blocks ≡ [] → occupancy ≡ 0
  pub room : (train : ℕ) → IsFirst blocks train → HasRoom blocks train occupancy
  pub least : (train : ℕ) → IsFirst blocks train → (later : ℕ) → HasRoom blocks train later → occupancy ≤ later
