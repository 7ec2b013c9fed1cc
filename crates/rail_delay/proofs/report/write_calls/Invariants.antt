use Rattle.std.proofs.Common.{Ok}
use Rattle.rail_rules.specs.Numbers.{gather}
use Rattle.rail_delay.specs.Reports.{call_lines}
use Rattle.rail_text.specs.Writes.{WritesText}
use Rattle.rail_delay.proofs.report.write_calls.Given as goal

abbrev pub invariant-loop-number : goal.invariant-loop-number
invariant-loop-number g l = WritesText g.O.Sink l.initial.out l.out (gather (call_lines l.plant l.delays.visits) l.number) (Ok tt)
