-- Steps of a stairway as numbers.
use Rattle.std.specs.Prelude.{ℕ, List, ◌∷◌, ◌++◌}
use Rattle.std.specs.Option.{option_to_list}
use Rattle.rail_base.specs.declared.intervals.Interval.{Interval}
use Rattle.rail_base.specs.declared.intervals.Parts.{Parts}
use Rattle.rail_rules.specs.Plant.{Plant}
use Rattle.rail_rules.specs.Fronts.{Front, admissions}
use Rattle.rail_rules.specs.Intervals.{interval_of}

-- the parts that are decided, in their order
abbrev pub parts_as_numbers : Parts → List ℕ
parts_as_numbers parts = option_to_list parts.setting ++ option_to_list parts.watching ++ option_to_list parts.approach ++ option_to_list parts.waiting
    ++ option_to_list parts.earlier ++ option_to_list parts.running ++ option_to_list parts.standing ++ option_to_list parts.clearing ++ option_to_list parts.release

-- train, move from 1, section, begin, end and parts of an interval; what is undecided is left out
abbrev pub interval_as_numbers : Interval → List ℕ
interval_as_numbers interval = interval.train ∷ interval.place ∷ interval.section ∷ interval.begin ∷ option_to_list interval.«end» ++ parts_as_numbers interval.parts

-- the interval of a train's move and step, both counted from 0
abbrev pub stair : Plant → Front → ℕ → ℕ → ℕ → List ℕ
stair plant front t m j = interval_as_numbers (interval_of plant t (admissions front t) m j)
