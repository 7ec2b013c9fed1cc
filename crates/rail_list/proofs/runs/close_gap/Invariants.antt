use Rattle.std.proofs.Common.{◌≡◌, ◌+◌, ◌-◌, ◌≤◌}
use Rattle.std.specs.Prelude.{vec_len, vec_capacity}
use Rattle.rail_list.proofs.MovedBack.{AreMoved}
use Rattle.rail_list.proofs.runs.close_gap.Given as goal

abbrev pub invariant-loop-index : goal.invariant-loop-index
invariant-loop-index l = record {
  moved : AreMoved l.initial.trains.items l.trains.items l.runs.items l.front l.index l.train l.count;
  within : l.index ≤ l.front + l.before;
  len : vec_len l.trains ≡ vec_len l.initial.trains;
  beside : vec_len l.runs ≡ vec_len l.initial.trains;
  room : vec_capacity l.trains ≡ vec_capacity l.initial.trains;
  room_of_runs : vec_capacity l.runs ≡ vec_capacity l.initial.runs;
}

abbrev pub decreases-loop-index : goal.decreases-loop-index
decreases-loop-index l = l.front + l.before - l.index
