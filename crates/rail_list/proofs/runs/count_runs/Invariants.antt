use Rattle.std.proofs.Common.{◌≡◌, ◌-◌, length}
use Rattle.rail_list.specs.KeptLists.{AreRuns}
use Rattle.rail_list.proofs.runs.count_runs.Given as goal

abbrev pub invariant-loop-start : goal.invariant-loop-start
invariant-loop-start l = record {
  long : length l.runs ≡ length l.list;
  runs : AreRuns l.list l.runs;
}

abbrev pub decreases-loop-start : goal.decreases-loop-start
decreases-loop-start l = length l.list - l.start
