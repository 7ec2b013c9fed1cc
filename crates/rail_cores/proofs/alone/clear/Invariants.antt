use Rattle.std.proofs.Common.{◌≡◌, ℕ, ◌<◌}
use Rattle.rail_rules.specs.Places.{place_of}
use Rattle.rail_place.specs.PlaceStates.{IsMadeFor}
use Rattle.rail_cores.proofs.alone.clear.Given as goal

abbrev pub invariant-loop-number : goal.invariant-loop-number
invariant-loop-number l = record {
  made : IsMadeFor l.moves l.places;
  below : (t : ℕ) → t < l.number → place_of l.places.positions t ≡ 0;
}
