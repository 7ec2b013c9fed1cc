use Rattle.std.proofs.Common.{◌*◌, ◌-◌, ◌%◌}
use Rattle.rail_queue.specs.Marks.{AreBare}
use Rattle.rail_queue.proofs.marks.Marks.first_from.Given as goal

-- the words so far have no mark, the first one from its place on
abbrev pub invariant-loop-step : goal.invariant-loop-step
invariant-loop-step l = AreBare l.self.words l.start (64 * l.step - l.start % 64)
