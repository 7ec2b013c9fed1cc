-- The blocking times that are taken for a compression, and when blocking times are without conflict.
use Rattle.std.specs.Prelude.{◌≡◌, ◌<◌, ◌≤◌, ◌^◌, ◌⊎◌, Bool, true, not, ◌&&◌, ◌||◌, ◌==◌, nat_lt, nat_le, ℕ, List, [], ◌∷◌, map, unwrap_or}
use Rattle.std.specs.List.{Contains, filter, list_all, list_any}
use Rattle.rail_base.specs.declared.intervals.Interval.{Interval}
use Rattle.rail_capacity.specs.declared.blocking_times.BlockingTime.{BlockingTime}
use Rattle.rail_capacity.specs.declared.compression.Window.{Window}

-- the blocking interval without its parts; an open one is empty
abbrev pub block_of : Interval → BlockingTime
block_of interval = record {
  section = interval.section;
  train = interval.train;
  begin = interval.begin;
  «end» = unwrap_or interval.«end» interval.begin;
}

-- the interval is on a section of the line and begins in the window
abbrev pub is_taken : List ℕ → Window → Interval → Bool
is_taken line window interval =
    list_any (λ section. section == interval.section) line
    && nat_le window.from interval.begin && nat_lt interval.begin window.to

-- the intervals on the line's sections that begin in the window
abbrev pub taken_blocks : List Interval → List ℕ → Window → List BlockingTime
taken_blocks intervals line window = map block_of (filter (is_taken line window) intervals)

-- the blocking time isn't empty, and its times are below 2^50
abbrev pub is_in_range : BlockingTime → Bool
is_in_range block = nat_lt block.begin block.«end» && nat_lt block.«end» (2 ^ 50)

-- the two are on different sections, or one ends before the other begins; they may touch
abbrev pub are_disjoint : BlockingTime → BlockingTime → Bool
are_disjoint a b = not (a.section == b.section) || nat_le a.«end» b.begin || nat_le b.«end» a.begin

-- blocking times as a run has them: none is empty, their times are below 2^50, and no two of one section overlap
abbrev pub are_conflict_free : List BlockingTime → Bool
are_conflict_free [] = true
are_conflict_free (block ∷ blocks) = is_in_range block && list_all (are_disjoint block) blocks && are_conflict_free blocks

-- the same of any one and any two of them
pub record AreConflictFree (blocks : List BlockingTime) : Type 0 where
  pub positive : (x : BlockingTime) → Contains blocks x → x.begin < x.«end»
  pub below : (x : BlockingTime) → Contains blocks x → x.«end» < 2 ^ 50
  pub apart :
      (x y : BlockingTime) → Contains blocks x → Contains blocks y → x.section ≡ y.section
      → (x ≡ y) ⊎ ((x.«end» ≤ y.begin) ⊎ (y.«end» ≤ x.begin))
