use Rattle.std.proofs.Common.{◌≡◌, ◌==◌, ◌&&◌, ℕ, ◌*◌, ◌<◌, false}
use Rattle.rail_sets.specs.Counts.{count_of}
use Rattle.rail_sets.specs.Sets.{has}
use Rattle.rail_sets.proofs.counts.Counts.has_pairs.Given as goal

abbrev pub invariant-loop-index : goal.invariant-loop-index
invariant-loop-index l = (x : ℕ) → x < 64 * l.index → (has l.set x && (count_of l.self x == 2)) ≡ false
