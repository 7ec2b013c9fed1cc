use Rattle.std.proofs.Common.{◌≡◌, ℕ, ◌<◌, get_or}
use Rattle.std.specs.Prelude.{bit_and}
use Rattle.rail_sets.proofs.sets.meet.Given as goal

abbrev pub invariant-loop-index : goal.invariant-loop-index
invariant-loop-index l = (j : ℕ) → j < l.index → bit_and (get_or l.first j 0) (get_or l.second j 0) ≡ 0
