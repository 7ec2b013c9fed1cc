use Rattle.std.proofs.Common.{◌≡◌, take}
use Rattle.rail_place.specs.Tables.{joined}
use Rattle.rail_place.proofs.claims.joined.Given as goal

abbrev pub invariant-loop-index : goal.invariant-loop-index
invariant-loop-index l = l.claims ≡ joined (take l.index l.need) (take l.index l.over)
