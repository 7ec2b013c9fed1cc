use Rattle.std.proofs.Common.{◌≡◌, ℕ, ◌<◌, ◌≤◌, true, Some, get_or, length, take}
use Rattle.rail_rules.specs.Numbers.{is_in}
use Rattle.rail_rules.specs.Places.{is_inside}
use Rattle.rail_place.specs.Tables.{moves_in}
use Rattle.rail_consequence.specs.Stops.{IsNotedTo, IsSettledTrain, IsStopped, section_of, stop_of}
use Rattle.rail_consequence.proofs.analyst.Worksheet.look_again.Given as goal

abbrev pub invariant-loop-index : goal.invariant-loop-index
invariant-loop-index g l = record {
  noted : IsNotedTo (moves_in l.moves) l.self.places.positions l.notes;
  stopped : (u x : ℕ) → is_in u (take l.index l.inside) ≡ true → is_inside (moves_in l.moves) l.self.places.positions u ≡ true → section_of (stop_of l.notes.stops u) ≡ Some x → IsStopped (moves_in l.moves) l.self.places.positions u x;
  within : l.settled ≤ length l.inside;
  settled : (i : ℕ) → i < l.index → i < l.settled → IsSettledTrain (moves_in l.moves) l.self.places.positions l.notes.stops (get_or l.inside i 0);
}
