use Rattle.std.proofs.Common.{◌≡◌, length, map, take, vec_capacity}
use Rattle.rail_base.specs.declared.plant.TrainRow.{TrainRow}
use Rattle.rail_orders.proofs.told_orders.priorities_of.Given as goal

abbrev pub invariant-loop-number : goal.invariant-loop-number
invariant-loop-number l = record {
  items : l.priorities.items ≡ map (λ (row : TrainRow). row.priority) (take l.number l.plant.tables.trains);
  long : length l.priorities.items ≡ l.number;
  room : vec_capacity l.priorities ≡ l.trains;
}
