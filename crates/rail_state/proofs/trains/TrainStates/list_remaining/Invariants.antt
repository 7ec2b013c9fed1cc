use Rattle.std.proofs.Common.{◌≡◌, ◌≤◌, ◌||◌, false, get_or, not, length, vec_capacity}
use Rattle.std.specs.List.{filter}
use Rattle.rail_rules.specs.Numbers.{listed}
use Rattle.rail_state.specs.TrainStates.{state_of}
use Rattle.rail_state.proofs.trains.TrainStates.list_remaining.Given as goal

abbrev pub invariant-loop-number : goal.invariant-loop-number
invariant-loop-number l = record {
  trains : l.into.items ≡ filter (λ t. not ((state_of l.train_state-items t).is_out || get_or l.orders.cancelled t false)) (listed (λ t. t) l.number);
  few : length l.into.items ≤ l.number;
  room : vec_capacity l.into ≡ vec_capacity l.fn.into;
}
