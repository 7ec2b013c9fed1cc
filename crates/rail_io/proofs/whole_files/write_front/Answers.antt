-- What was taken before, and in this turn, is the first part of the piece.
use Rattle.std.proofs.Common.{arith}
use Rattle.std.proofs.Math.Seq.{take-add}
use Rattle.std.proofs.lemmas.List.{take_rest}
use Rattle.std.proofs.lemmas.Grind.{common_steps}
use Rattle.rail_io.proofs.Added.{Adds-append}
use Rattle.rail_io.proofs.whole_files.write_front.Goals as goal

pub loop-done-preserved : goal.loop-done-preserved
loop-done-preserved g c = record {
  within = grind (arith, common_steps);
  added = rw take-add (Adds-append c.loop-done.invariant.added (rw take_rest at c.in-Ok.ensures.adds));
  untouched = λ none. absurd (omega (arith, c.in-Ok.ensures.some));
  faults = omega (arith, c.in-Ok.ensures.faults_never_fall);
}
