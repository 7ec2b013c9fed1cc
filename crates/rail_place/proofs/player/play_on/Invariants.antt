use Rattle.std.proofs.Common.{◌≡◌, ◌+◌, ◌-◌, ◌^◌, min, take, drop}
use Rattle.rail_place.specs.Tables.{moves_in}
use Rattle.rail_place.specs.PlaceStates.{IsMadeFor}
use Rattle.rail_place.specs.Bars.{moves_made, outcome}
use Rattle.rail_place.specs.Plays.{IsPlayed}
use Rattle.rail_place.proofs.player.play_on.Given as goal

abbrev pub invariant-loop-made : goal.invariant-loop-made
invariant-loop-made l = record {
  made : IsMadeFor l.moves l.places;
  moves : IsPlayed (moves_in l.moves) l.fn.places.positions (take l.made l.list) l.places.positions;
  count : l.made + moves_made (moves_in l.moves) l.places.positions (drop l.made l.list) ≡ moves_made (moves_in l.moves) l.fn.places.positions l.list;
  played : l.places.played ≡ min (l.fn.places.played + l.made) (2 ^ 64 - 1);
  answer : outcome (moves_in l.moves) l.places.positions (l.made + 1) (drop l.made l.list) ≡ outcome (moves_in l.moves) l.fn.places.positions 1 l.list;
}
