-- Blocking intervals at the end of a history, where open ones are ended at the end line.
use Rattle.std.specs.Prelude.{◌⊎◌, ℕ, ◌<◌, ◌≤◌, ◌^◌, unwrap_or}
use Rattle.rail_base.specs.declared.intervals.Interval.{Interval}
use Rattle.rail_rules.specs.Fronts.{Front, admissions}
use Rattle.rail_rules.specs.Intervals.{interval_of}
use Rattle.rail_rules.specs.Plant.{Plant}
use Rattle.rail_stairs.specs.Stairways.{ended_at}

-- when the interval ends; an open one ends at the end line of the front
abbrev pub end_in : Front → Interval → ℕ
end_in front interval = unwrap_or interval.«end» (unwrap_or (ended_at front) 0)

-- the interval is not empty, and its end is below 2^50
pub record IsPositive (front : Front) (interval : Interval) : Type 0 where
  pub positive : interval.begin < end_in front interval
  pub small : end_in front interval < 2 ^ 50

-- the interval of a step of an admitted move of the train, by the admissions in the front
abbrev pub interval_in : Plant → Front → ℕ → ℕ → ℕ → Interval
interval_in plant front t m j = interval_of plant t (admissions front t) m j

-- one of the two ends before the other begins; they may touch
abbrev pub AreDisjoint : Front → Interval → Interval → Type 0
AreDisjoint front a b = (end_in front a ≤ b.begin) ⊎ (end_in front b ≤ a.begin)
