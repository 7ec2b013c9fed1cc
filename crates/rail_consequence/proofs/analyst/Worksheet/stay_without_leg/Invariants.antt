use Rattle.std.proofs.Common.{◌≢◌, ℕ, ◌<◌, ◌≤◌, get_or, length, set}
use Rattle.rail_place.specs.Tables.{moves_in}
use Rattle.rail_consequence.specs.Freeing.{MayWaitFor}
use Rattle.rail_consequence.specs.Searches.{HasNoSafeLegOf}
use Rattle.rail_consequence.proofs.analyst.Worksheet.stay_without_leg.Given as goal

abbrev pub invariant-loop-index : goal.invariant-loop-index
invariant-loop-index g l = (i : ℕ) → l.index ≤ i → i < length l.inside → get_or l.inside i 0 ≢ l.fn.train
    → MayWaitFor (moves_in l.moves) l.self.places.positions l.notes.stops (get_or l.inside i 0) l.fn.train → HasNoSafeLegOf (moves_in l.moves) (set l.self.places.positions l.fn.train l.fn.place) (get_or l.inside i 0)
