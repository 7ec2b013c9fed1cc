use Rattle.std.proofs.Common.{Ok}
use Rattle.rail_rules.specs.Numbers.{gather}
use Rattle.rail_rules.specs.Plant.{call_after}
use Rattle.rail_delay.specs.Reports.{call_line}
use Rattle.rail_text.specs.Writes.{WritesText}
use Rattle.rail_delay.proofs.report.write_train_calls.Given as goal

abbrev pub invariant-loop-index : goal.invariant-loop-index
invariant-loop-index g l = WritesText g.O.Sink l.initial.out l.out (gather (λ m. call_line l.plant l.train l.row m (call_after l.plant l.train m)) l.index) (Ok tt)
