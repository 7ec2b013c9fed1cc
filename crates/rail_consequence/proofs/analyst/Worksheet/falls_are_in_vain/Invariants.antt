use Rattle.std.proofs.Common.{◌≡◌, ◌≢◌, ℕ, ◌⊎◌, true, set, take}
use Rattle.rail_rules.specs.Numbers.{is_in}
use Rattle.rail_place.specs.Tables.{moves_in}
use Rattle.rail_consequence.specs.Searches.{HasNoSafeLegOf}
use Rattle.rail_consequence.specs.Stops.{IsUntouched, stop_of}
use Rattle.rail_consequence.specs.declared.notes.Stop.TheVariants.{Later}
use Rattle.rail_consequence.proofs.analyst.Worksheet.falls_are_in_vain.Given as goal

abbrev pub invariant-loop-other : goal.invariant-loop-other
invariant-loop-other g l = (u x : ℕ) → is_in u (take l.other-index l.inside) ≡ true → u ≢ l.fn.train → stop_of l.notes.stops u ≡ Later x
    → IsUntouched (moves_in l.moves) l.self.places.positions l.ahead.fell u ⊎ HasNoSafeLegOf (moves_in l.moves) (set l.self.places.positions l.fn.train l.fn.place) u
