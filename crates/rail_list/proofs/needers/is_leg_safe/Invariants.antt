use Rattle.std.proofs.Common.{◌≡◌, ◌&&◌, eqb, false, not}
use Rattle.rail_rules.specs.Analysis.{needs_later}
use Rattle.rail_rules.specs.Moves.{stand}
use Rattle.rail_rules.specs.Numbers.{any_below}
use Rattle.rail_place.specs.Tables.{moves_in}
use Rattle.rail_list.proofs.needers.is_leg_safe.Given as goal

abbrev pub invariant-loop-number : goal.invariant-loop-number
invariant-loop-number l = any_below (λ u. not (eqb u l.train) && needs_later (moves_in l.moves) l.places.positions (stand (moves_in l.moves) l.train l.place) u) l.number ≡ false
