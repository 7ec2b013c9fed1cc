use Rattle.std.proofs.Common.{◌≡◌, ℕ, ◌≤◌, List, length, take, drop}
use Rattle.rail_place.specs.Tables.{moves_in}
use Rattle.rail_place.specs.Plays.{IsPlayed}
use Rattle.rail_consequence.specs.Workspace.{IsPlayedFrom, IsReady}
use Rattle.rail_consequence.proofs.analyst.Worksheet.go_back.Given as goal

abbrev pub invariant-loop-self : goal.invariant-loop-self
invariant-loop-self g l = record {
  ready : IsReady l.moves l.self;
  above : l.mark ≤ length l.self.list;
  list : l.self.list ≡ take (length l.self.list) l.fn.self.list;
  played : IsPlayedFrom (moves_in l.moves) l.mark l.self;
  positions : (s : List ℕ) → IsPlayed (moves_in l.moves) s (drop l.mark l.fn.self.list) l.fn.self.places.positions → IsPlayed (moves_in l.moves) s (drop l.mark l.self.list) l.self.places.positions;
}

abbrev pub decreases-loop-self : goal.decreases-loop-self
decreases-loop-self g l = length l.self.list
