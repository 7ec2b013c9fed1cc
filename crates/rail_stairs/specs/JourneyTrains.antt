-- What the definitions say of the train of a journey.
use Rattle.std.specs.Prelude.{ℕ, List}
use Rattle.rail_rules.specs.Plant.{Plant}
use Rattle.rail_stairs.specs.declared.journey.Journey.{Journey}
use Rattle.rail_stairs.specs.declared.stairs.Stairs.{Stairs}
use Rattle.rail_stairs.specs.NotedHistories.{noted_of}

-- the admissions of the train
abbrev pub admissions_in : Journey → List ℕ
admissions_in journey = noted_of journey.stairs.now journey.train

-- what a definition says of the train's moves and its admissions
abbrev pub of_train : {A : Type 0} → (Plant → ℕ → List ℕ → A) → Journey → A
of_train f journey = f journey.plant.now journey.train (admissions_in journey)

-- what stands before the train in the stairway, or before one of its moves or steps
abbrev pub at_train : {A : Type 0} → (Plant → Stairs → ℕ → A) → Journey → A
at_train f journey = f journey.plant.now journey.stairs.now journey.train
