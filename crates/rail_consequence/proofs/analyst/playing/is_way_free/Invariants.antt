use Rattle.rail_place.specs.Tables.{moves_in}
use Rattle.rail_consequence.specs.Ways.{IsWayFree}
use Rattle.rail_consequence.proofs.analyst.playing.is_way_free.Given as goal

abbrev pub invariant-loop-made : goal.invariant-loop-made
invariant-loop-made g l = IsWayFree (moves_in l.moves) l.train l.from l.made l.taken
