use Rattle.rail_place.specs.Tables.{moves_in}
use Rattle.rail_consequence.proofs.Stopping.{IsOpen}
use Rattle.rail_consequence.proofs.analyst.Worksheet.look.Given as goal

abbrev pub invariant-loop-made : goal.invariant-loop-made
invariant-loop-made g l = IsOpen (moves_in l.moves) l.self.places.positions l.train l.made
