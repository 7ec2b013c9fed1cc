use Rattle.std.proofs.Common.{Ok, take}
use Rattle.std.specs.Prelude.{flat_map}
use Rattle.rail_forms.specs.Reroutes.{answered_line}
use Rattle.rail_text.specs.Writes.{WritesText}
use Rattle.rail_forms.proofs.reroute.write_answers.Given as goal

abbrev pub invariant-loop-answer : goal.invariant-loop-answer
invariant-loop-answer g l = WritesText g.O.Sink l.initial.out l.out (flat_map (answered_line l.scene) (take l.answer-index l.answers)) (Ok tt)
