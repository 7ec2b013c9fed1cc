use Rattle.std.proofs.Common.{◌≡◌, length, map, replicate, take}
use Rattle.rail_base.specs.declared.plant.TrainRow.{TrainRow}
use Rattle.rail_delay.specs.Reports.{no_visit}
use Rattle.rail_delay.specs.VisitRows.{rows_of}
use Rattle.rail_delay.proofs.visits.rooms_of.Given as goal

abbrev pub invariant-loop-number : goal.invariant-loop-number
invariant-loop-number l = rows_of l.rooms.items ≡ map (λ (row : TrainRow). replicate (length row.moves) no_visit) (take l.number l.plant.tables.trains)
