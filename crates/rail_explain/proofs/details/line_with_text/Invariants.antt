use Rattle.std.proofs.Common.{length}
use Rattle.rail_explain.proofs.details.line_with_text.Given as goal

abbrev pub decreases-loop-line : goal.decreases-loop-line
decreases-loop-line l = length l.rest
