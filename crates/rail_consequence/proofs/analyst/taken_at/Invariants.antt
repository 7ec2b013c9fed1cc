use Rattle.std.proofs.Common.{take}
use Rattle.rail_place.specs.Tables.{moves_in}
use Rattle.rail_consequence.proofs.Holding.{HasTaken}
use Rattle.rail_consequence.proofs.analyst.taken_at.Given as goal

abbrev pub invariant-loop-train : goal.invariant-loop-train
invariant-loop-train g l = HasTaken (moves_in l.moves) l.places.positions (take l.train-index l.inside) l.taken
