use Rattle.std.proofs.Common.{◌≡◌, ℕ, ◌<◌, ◌≤◌, ◌⊎◌, true, false, get_or, length}
use Rattle.rail_rules.specs.Places.{is_inside}
use Rattle.rail_place.specs.Tables.{moves_in}
use Rattle.rail_sets.specs.TrainSets.{has_train}
use Rattle.rail_consequence.specs.Freeing.{FallsInVain, IsNextStop, IsNotAwaited}
use Rattle.rail_consequence.proofs.analyst.Worksheet.find_openers.Given as goal

abbrev pub invariant-loop-index : goal.invariant-loop-index
invariant-loop-index g l = record {
  known : (t : ℕ) → has_train l.openers t ≡ true → t < length l.moves;
  awaited : (t i : ℕ) → l.index ≤ i → i < length l.inside → has_train l.openers t ≡ false → is_inside (moves_in l.moves) l.self.places.positions t ≡ true
      → IsNotAwaited (moves_in l.moves) l.self.places.positions l.notes.stops t (get_or l.inside i 0);
  falls : (i : ℕ) → l.index ≤ i → i < length l.inside → has_train l.openers (get_or l.inside i 0) ≡ false → is_inside (moves_in l.moves) l.self.places.positions (get_or l.inside i 0) ≡ true
      → IsNextStop l.notes.stops (get_or l.inside i 0)
      ⊎ FallsInVain (moves_in l.moves) l.self.places.positions l.self.needs g.W.Width.WORDS l.notes.stops l.inside (get_or l.inside i 0) ((moves_in l.moves).moves (get_or l.inside i 0));
}
