use Rattle.std.proofs.Common.{◌≡◌, ℕ, ◌<◌, ◌≤◌, false, set}
use Rattle.rail_rules.specs.Analysis.{is_safe}
use Rattle.rail_rules.specs.Places.{place_of}
use Rattle.rail_place.specs.Tables.{moves_in}
use Rattle.rail_consequence.proofs.analyst.Worksheet.is_kept_from_legs.Given as goal

abbrev pub invariant-loop-made : goal.invariant-loop-made
invariant-loop-made g l = (q : ℕ) → place_of l.self.places.positions l.stopped < q → q ≤ l.made → is_safe (moves_in l.moves) (set l.self.places.positions l.fn.train l.place) (record { train = l.stopped; place = q }) ≡ false
