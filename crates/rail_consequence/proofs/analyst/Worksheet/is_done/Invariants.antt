use Rattle.std.proofs.Common.{◌≡◌, ℕ, true, false, take}
use Rattle.rail_rules.specs.Numbers.{is_in}
use Rattle.rail_rules.specs.Places.{is_inside}
use Rattle.rail_place.specs.Tables.{moves_in}
use Rattle.rail_consequence.proofs.analyst.Worksheet.is_done.Given as goal

abbrev pub invariant-loop-train : goal.invariant-loop-train
invariant-loop-train l = (u : ℕ) → is_in u (take l.train-index l.inside) ≡ true → is_inside (moves_in l.moves) l.self.places.positions u ≡ false
