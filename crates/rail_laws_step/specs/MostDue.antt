-- How many lines are due at once at most.
use Rattle.std.specs.Prelude.{ℕ, ◌+◌, ◌*◌, length}
use Rattle.rail_rules.specs.Plant.{Plant, trains}

-- how many lines are due at once at most: of each section that a head enters it, that a train arrives at the end of a
-- move there, and that it is given free; of each train that its next move is ready, and that it is out; and one of each
-- command
abbrev pub most_due : Plant → ℕ → ℕ
most_due plant commands = 3 * length plant.tables.sections + 2 * trains plant + commands
