use Rattle.std.proofs.Common.{◌≡◌, ◌-◌, None}
use Rattle.rail_plan.specs.PlanFaults.{bare, first_answer, fault_over}
use Rattle.rail_plan.proofs.faults.first_fault.Given as goal

abbrev pub invariant-loop-place : goal.invariant-loop-place
invariant-loop-place l = first_answer (fault_over (bare l.tables) l.train l.metres l.moves) (l.place - 1) ≡ None
