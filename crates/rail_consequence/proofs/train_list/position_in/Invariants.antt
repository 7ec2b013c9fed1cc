use Rattle.std.proofs.Common.{ℕ, ◌<◌, ◌≤◌, get_or, length}
use Rattle.rail_consequence.proofs.train_list.position_in.Given as goal

abbrev pub invariant-loop-position : goal.invariant-loop-position
invariant-loop-position l = record {
  here : (d : ℕ) → l.position < length l.trains → l.fn.train ≤ get_or l.trains l.position d;
}
