use Rattle.std.proofs.Common.{◌≡◌, map, take}
use Rattle.rail_base.specs.declared.plant.TrainRow.{TrainRow}
use Rattle.rail_plan.proofs.making.train_names.Given as goal

abbrev pub invariant-loop-row : goal.invariant-loop-row
invariant-loop-row l = l.names.keys ≡ map (λ (row : TrainRow). row.name) (take l.row-index l.rows)
