use Rattle.std.proofs.Common.{◌≡◌, true, map, take}
use Rattle.std.specs.List.{list_all}
use Rattle.rail_compile.specs.Ways.{is_among, place_among}
use Rattle.rail_compile.proofs.compiling.itineraries.route_numbers.Given as goal

abbrev pub invariant-loop-name : goal.invariant-loop-name
invariant-loop-name l = record {
  known : list_all (is_among l.names.keys) (take l.name-index l.itinerary) ≡ true;
  numbers : l.numbers.items ≡ map (place_among l.names.keys) (take l.name-index l.itinerary);
}
