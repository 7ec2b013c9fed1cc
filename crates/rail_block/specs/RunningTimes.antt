-- Running and clearing times.
use Rattle.std.specs.Prelude.{ℕ, ◌*◌}
use Rattle.rail_rules.specs.Numbers.{quotient_up}

-- the time in tenths of a second over so many metres at a speed in km/h, rounded up to a whole tenth:
-- a metre at one km/h takes 36 tenths
abbrev pub time_over : ℕ → ℕ → ℕ
time_over metres speed = quotient_up (36 * metres) speed
