use Rattle.std.proofs.Common.{◌≡◌, ℕ, true}
use Rattle.rail_rules.specs.Places.{is_inside}
use Rattle.rail_place.specs.Tables.{moves_in}
use Rattle.rail_sets.specs.TrainSets.{has_train}
use Rattle.rail_consequence.proofs.analyst.Worksheet.trains_inside.Given as goal

abbrev pub invariant-loop-train : goal.invariant-loop-train
invariant-loop-train l = (t : ℕ) → is_inside (moves_in l.moves) l.self.places.positions t ≡ true → has_train l.left t ≡ true
