-- Which blocking time comes first, when the last one on each section ends, and the room behind it.
use Rattle.std.specs.Prelude.{◌≡◌, ℕ, ◌+◌, ◌≤◌, ◌⊎◌, Bool, ◌||◌, ◌&&◌, ◌==◌, nat_lt, List, slice_set, slice_index_or, max}
use Rattle.std.specs.List.{Contains}
use Rattle.rail_capacity.specs.declared.blocking_times.BlockingTime.{BlockingTime}

-- the blocking time begins first, or with the other and is of a lesser train
abbrev pub precedes : BlockingTime → BlockingTime → Bool
precedes block other = nat_lt block.begin other.begin || ((block.begin == other.begin) && nat_lt block.train other.train)

-- the ends by section, with one more blocking time
abbrev pub with_end : List ℕ → BlockingTime → List ℕ
with_end ends block = slice_set ends block.section (max block.«end» (slice_index_or ends block.section 0))

-- when the last blocking time on each section ends; 0 where there is none
pub record AreEnds (blocks : List BlockingTime) (ends : List ℕ) : Type 0 where
  pub above : (x : BlockingTime) → Contains blocks x → x.«end» ≤ slice_index_or ends x.section 0
  pub met :
      (s : ℕ)
      → (slice_index_or ends s 0 ≡ 0)
      ⊎ ((x : BlockingTime) × Contains blocks x × (x.section ≡ s) × (x.«end» ≡ slice_index_or ends s 0))

-- the least number that brings each blocking time of the train behind the end on its section
pub record IsRoom (blocks : List BlockingTime) (ends : List ℕ) (train room : ℕ) : Type 0 where
  pub enough : (x : BlockingTime) → Contains blocks x → x.train ≡ train → slice_index_or ends x.section 0 ≤ x.begin + room
  pub met :
      (room ≡ 0)
      ⊎ ((x : BlockingTime) × Contains blocks x × (x.train ≡ train) × (x.begin + room ≡ slice_index_or ends x.section 0))
