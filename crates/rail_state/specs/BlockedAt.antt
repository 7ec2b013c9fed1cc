-- For each section the trains that are blocked at it.
use Rattle.std.specs.Prelude.{ℕ, List, [], get_or}
use Rattle.rail_sets.specs.declared.train_set.TrainSet.{TrainSet}

-- what stands for the set of a section that a table doesn't have
abbrev pub no_trains : TrainSet
no_trains = record { words = [] }

-- the set of the section
abbrev pub set_at : List TrainSet → ℕ → TrainSet
set_at sets x = get_or sets x no_trains
