-- What the rules say of a known move and of its steps.
use Rattle.std.specs.Prelude.{ℕ, suc, ◌+◌, ◌-◌, cond, List, Option, Some, None}
use Rattle.rail_rules.specs.Plant.{Plant}
use Rattle.rail_rules.specs.Times.{admitted}
use Rattle.rail_rules.specs.Intervals.{is_taken_over}
use Rattle.rail_block.specs.declared.moves.KnownMove.{KnownMove}
use Rattle.rail_block.specs.declared.moves.KnownOver.{KnownOver}
use Rattle.rail_block.specs.declared.moves.KnownStep.{KnownStep}
use Rattle.rail_block.specs.declared.times.MoveTimes.{MoveTimes}
use Rattle.rail_block.specs.CarriedTimes.{AreTimes, times_at}

-- The code counts places and steps from 1, the rules count moves and steps from 0: the move to a place has the number of the place before.

-- what a definition says of the move, or of the place at which it begins
abbrev pub of_move : {A : Type 0} → (Plant → ℕ → ℕ → A) → KnownMove → A
of_move f known = f known.plant.now known.train (known.place - 1)

-- what a definition says of the place to which the move leads
abbrev pub of_place : {A : Type 0} → (Plant → ℕ → ℕ → A) → KnownMove → A
of_place f known = f known.plant.now known.train known.place

-- what a definition says of the step
abbrev pub of_step : {A : Type 0} → (Plant → ℕ → ℕ → ℕ → A) → KnownStep → A
of_step f s = f s.of.now.plant.now s.of.now.train (s.of.now.place - 1) (s.step - 1)

-- what a definition says of the move by the admissions of its train
abbrev pub timed : {A : Type 0} → (Plant → ℕ → List ℕ → ℕ → A) → KnownMove → List ℕ → A
timed f known adms = f known.plant.now known.train adms (known.place - 1)

-- what a definition says of the step by the admissions of its train
abbrev pub timed_step : {A : Type 0} → (Plant → ℕ → List ℕ → ℕ → ℕ → A) → KnownStep → List ℕ → A
timed_step f s adms = f s.of.now.plant.now s.of.now.train adms (s.of.now.place - 1) (s.step - 1)

-- the times of the move by the admissions of its train
abbrev pub own_times : KnownMove → List ℕ → MoveTimes
own_times known adms = times_at known.plant.now known.train adms known.place

-- the times of the move after it, by the same admissions
abbrev pub times_after : KnownMove → List ℕ → MoveTimes
times_after known adms = times_at known.plant.now known.train adms (known.place + 1)

-- these are the times of the move, with those of the move after it where that is admitted
abbrev pub AreTimesOf : KnownMove → List ℕ → MoveTimes → Option MoveTimes → Type 0
AreTimesOf known adms times next = AreTimes known.plant.now known.train adms known.place times next

-- what a definition says of the section of the overlap
abbrev pub of_over : {A : Type 0} → (Plant → ℕ → ℕ → ℕ → A) → KnownOver → A
of_over f o = f o.of.now.plant.now o.of.now.train (o.of.now.place - 1) (o.step - 1)

-- what a definition says of the section of the overlap by the admissions of its train
abbrev pub timed_over : {A : Type 0} → (Plant → ℕ → List ℕ → ℕ → ℕ → A) → KnownOver → List ℕ → A
timed_over f o adms = f o.of.now.plant.now o.of.now.train adms (o.of.now.place - 1) (o.step - 1)

-- when the next move takes the section over, where it does
abbrev pub taken_at : Plant → ℕ → List ℕ → ℕ → ℕ → Option ℕ
taken_at plant t adms m j = cond (is_taken_over plant t adms m j) (Some (admitted adms (suc m))) None
