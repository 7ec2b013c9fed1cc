-- The blocking time stairway of a front, and the occupation of its sections.
use Rattle.std.specs.Prelude.{ℕ, ◌-◌, ◌==◌, cond, List, [], ◌∷◌, length, count_by, unwrap_or, Option, Some, None}
use Rattle.std.specs.List.{sum_by}
use Rattle.rail_base.specs.declared.intervals.Interval.{Interval}
use Rattle.rail_rules.specs.Numbers.{gather}
use Rattle.rail_rules.specs.Plant.{Plant, claims, trains}
use Rattle.rail_rules.specs.Fronts.{Front, admissions, is_end}
use Rattle.rail_rules.specs.Intervals.{has_interval, interval_of}

-- the time of the end line, where it stands
abbrev pub ended_at : Front → Option ℕ
ended_at [] = None
ended_at (line ∷ before) = cond (is_end line.entry.what) (Some line.entry.at) (ended_at before)

-- the blocking interval of a step of an admitted move, both counted from 0, where the step has one
abbrev pub step_intervals : Plant → ℕ → List ℕ → ℕ → ℕ → List Interval
step_intervals plant t adms m j = cond (has_interval plant t adms m j) (interval_of plant t adms m j ∷ []) []

-- the blocking intervals of an admitted move, counted from 0, by step: those of the sections that it needs, then those of its overlap
abbrev pub move_intervals : Plant → ℕ → List ℕ → ℕ → List Interval
move_intervals plant t adms m = gather (step_intervals plant t adms m) (claims plant t m)

-- the blocking intervals of a train with these admissions, by move and step
abbrev pub train_intervals : Plant → ℕ → List ℕ → List Interval
train_intervals plant t adms = gather (move_intervals plant t adms) (length adms)

-- the stairway: the blocking intervals by train, move and step
abbrev pub stairway : Plant → Front → List Interval
stairway plant front = gather (λ t. train_intervals plant t (admissions front t)) (trains plant)

-- the interval, ended at this time where it is open
abbrev pub ended_by : ℕ → Interval → Interval
ended_by ended interval = record interval { «end» = Some (unwrap_or interval.«end» ended) }

-- how long an interval is; an open one up to the end of the history
abbrev pub length_until : ℕ → Interval → ℕ
length_until ended interval = unwrap_or interval.«end» ended - interval.begin

-- how many of the intervals are on the section
abbrev pub visits : List Interval → ℕ → ℕ
visits intervals x = count_by (λ (interval : Interval). interval.section == x) intervals

-- how long the section is occupied by the intervals, open ones up to the end of the history
abbrev pub occupation : ℕ → List Interval → ℕ → ℕ
occupation ended intervals x = sum_by (λ (interval : Interval). cond (interval.section == x) (length_until ended interval) 0) intervals
