use Rattle.std.proofs.Common.{◌≡◌, ℕ}
use Rattle.rail_rules.specs.Numbers.{any_below}
use Rattle.rail_rules.specs.Places.{holds}
use Rattle.rail_place.specs.Tables.{moves_in}
use Rattle.rail_sets.specs.Sets.{has}
use Rattle.rail_consequence.proofs.analyst.playing.taken_by_all.Given as goal

abbrev pub invariant-loop-number : goal.invariant-loop-number
invariant-loop-number g l = (x : ℕ) → has l.taken x ≡ any_below (λ u. holds (moves_in l.moves) l.positions u x) l.number
