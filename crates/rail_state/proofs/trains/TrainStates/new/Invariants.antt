use Rattle.std.proofs.Common.{◌≡◌, vec_len, vec_capacity}
use Rattle.rail_rules.specs.Numbers.{listed}
use Rattle.rail_state.specs.TrainStates.{outside}
use Rattle.rail_state.proofs.trains.TrainStates.new.Given as goal

abbrev pub invariant-loop-number : goal.invariant-loop-number
invariant-loop-number l = record {
  rows : l.rows.items ≡ listed (outside l.plant) l.number;
  long : vec_len l.rows ≡ l.number;
  room : vec_capacity l.rows ≡ l.trains;
}
