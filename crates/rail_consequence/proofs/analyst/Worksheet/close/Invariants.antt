use Rattle.std.proofs.Common.{◌↔◌, ℕ, suc, ◌≤◌, cond, eqb, length}
use Rattle.rail_rules.specs.Analysis.{Finds, moves_left}
use Rattle.rail_place.specs.Tables.{moves_in}
use Rattle.rail_consequence.specs.Cores.{LeadsAhead}
use Rattle.rail_consequence.specs.Stops.{AreSettledBelow, AreSettledFrom, IsNotedTo}
use Rattle.rail_consequence.specs.Workspace.{GoesOn, IsReady}
use Rattle.rail_consequence.proofs.analyst.Worksheet.close.Given as goal

abbrev pub invariant-loop-from : goal.invariant-loop-from
invariant-loop-from g l = record {
  ready : IsReady l.moves l.self;
  noted : IsNotedTo (moves_in l.moves) l.self.places.positions l.notes;
  goes : GoesOn (moves_in l.moves) l.fn.self l.self;
  same : (k : ℕ) → Finds (moves_in l.moves) k l.fn.self.places.positions ↔ Finds (moves_in l.moves) k l.self.places.positions;
  ahead : LeadsAhead (moves_in l.moves) l.fn.self.places.positions l.self.places.positions;
  within : l.upto ≤ length l.inside;
  before : AreSettledBelow (moves_in l.moves) l.self.places.positions l.notes.stops l.inside l.from;
  settled : AreSettledFrom (moves_in l.moves) l.self.places.positions l.notes.stops l.inside l.upto;
}

-- a pass in which no leg is made is the last
abbrev pub decreases-loop-from : goal.decreases-loop-from
decreases-loop-from g l = cond (eqb l.upto 0) 0 (suc (moves_left (moves_in l.moves) l.self.places.positions))
