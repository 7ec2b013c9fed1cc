use Rattle.std.proofs.Common.{◌↔◌, ℕ, ◌-◌, ◌<◌, ◌≤◌, get_or, length}
use Rattle.rail_rules.specs.Analysis.{Finds, moves_left}
use Rattle.rail_place.specs.Tables.{moves_in}
use Rattle.rail_consequence.specs.Cores.{LeadsAhead}
use Rattle.rail_consequence.specs.Stops.{AreSettledFrom, IsNotedTo, IsSettledTrain}
use Rattle.rail_consequence.specs.Workspace.{GoesOn, IsReady}
use Rattle.rail_consequence.proofs.analyst.Worksheet.make_safe_legs.Given as goal

-- the trains that were looked at since the last leg are settled, and so are those behind the end
abbrev pub invariant-loop-index : goal.invariant-loop-index
invariant-loop-index g l = record {
  ready : IsReady l.moves l.self;
  noted : IsNotedTo (moves_in l.moves) l.self.places.positions l.notes;
  goes : GoesOn (moves_in l.moves) l.fn.self l.self;
  same : (k : ℕ) → Finds (moves_in l.moves) k l.fn.self.places.positions ↔ Finds (moves_in l.moves) k l.self.places.positions;
  ahead : LeadsAhead (moves_in l.moves) l.fn.self.places.positions l.self.places.positions;
  no_more : moves_left (moves_in l.moves) l.self.places.positions ≤ moves_left (moves_in l.moves) l.fn.self.places.positions;
  fewer : 0 < l.settled_from → moves_left (moves_in l.moves) l.self.places.positions < moves_left (moves_in l.moves) l.fn.self.places.positions;
  in_list : l.settled_from ≤ length l.inside;
  within : l.end ≤ length l.inside;
  looked_at : (i : ℕ) → l.settled_from ≤ i → i < l.index → IsSettledTrain (moves_in l.moves) l.self.places.positions l.notes.stops (get_or l.inside i 0);
  behind : AreSettledFrom (moves_in l.moves) l.self.places.positions l.notes.stops l.inside l.end;
}

abbrev pub decreases-loop-index : goal.decreases-loop-index
decreases-loop-index g l = length l.inside - l.index
