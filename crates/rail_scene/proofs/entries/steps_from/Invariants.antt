use Rattle.std.proofs.Common.{◌≡◌, ◌++◌, length}
use Rattle.rail_scene.specs.Entries.{steps_from}
use Rattle.rail_scene.proofs.entries.steps_from.Given as goal

abbrev pub invariant-loop-rest : goal.invariant-loop-rest
invariant-loop-rest l = l.steps.items ++ steps_from l.joint l.rest ≡ steps_from l.fn.start l.names

abbrev pub decreases-loop-rest : goal.decreases-loop-rest
decreases-loop-rest l = length l.rest
