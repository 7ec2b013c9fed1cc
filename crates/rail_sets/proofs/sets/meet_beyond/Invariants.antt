use Rattle.std.proofs.Common.{◌≡◌, ℕ, ◌<◌, get_or, w64}
use Rattle.std.specs.Prelude.{bit_and}
use Rattle.std.specs.Int.{bit_not}
use Rattle.rail_sets.proofs.sets.meet_beyond.Given as goal

abbrev pub invariant-loop-index : goal.invariant-loop-index
invariant-loop-index l = (j : ℕ) → j < l.index → bit_and (bit_and (get_or l.first j 0) (get_or l.second j 0)) (bit_not w64 (get_or l.third j 0)) ≡ 0
