-- Single steps.
use Rattle.std.specs.Prelude.{ℕ}
use Rattle.rail_rules.specs.Plant.{Plant, train, section, step_section, run_time}
use Rattle.rail_rules.specs.Times.{clearing}

-- the running time of the train over the section of a step of its move, both counted from 0
abbrev pub step_time : Plant → ℕ → ℕ → ℕ → ℕ
step_time plant t m j = run_time (train plant t).kind (section plant (step_section plant t m j))

-- the clearing time of the section of a step of its move, both counted from 0
abbrev pub step_clearing : Plant → ℕ → ℕ → ℕ → ℕ
step_clearing plant t m j = clearing plant t (step_section plant t m j)
