-- Rows of visits, one for each train.
use Rattle.std.specs.Prelude.{ℕ, List, map, set, replicate, length}
use Rattle.std.specs.Global.{Vec}
use Rattle.rail_base.specs.declared.plant.TrainRow.{TrainRow}
use Rattle.rail_rules.specs.Plant.{Plant}
use Rattle.rail_delay.specs.declared.visits.Visit.{Visit}
use Rattle.rail_delay.specs.Reports.{no_visit, visit_of, visits_of}

-- the rows that vectors hold
abbrev pub rows_of : List (Vec Visit) → List (List Visit)
rows_of rows = map (λ (row : Vec Visit). row.items) rows

-- a visit of a train in rows, where it is there
abbrev pub visit_in : List (List Visit) → ℕ → ℕ → Visit
visit_in rows t m = visit_of (visits_of rows t) m

-- the rows with this visit of a train
abbrev pub with_visit : List (List Visit) → ℕ → ℕ → Visit → List (List Visit)
with_visit rows t m visit = set rows t (set (visits_of rows t) m visit)

-- rows without a visit yet: one for each train, with room for each of its moves
abbrev pub no_visits : Plant → List (List Visit)
no_visits plant = map (λ (row : TrainRow). replicate (length row.moves) no_visit) plant.tables.trains
