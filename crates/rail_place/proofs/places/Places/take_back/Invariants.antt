use Rattle.std.proofs.Common.{◌≡◌, ℕ, ◌<◌, List, length}
use Rattle.std.specs.List.{All}
use Rattle.rail_place.specs.Tables.{moves_in}
use Rattle.rail_place.specs.PlaceStates.{IsMadeFor}
use Rattle.rail_place.specs.Plays.{IsPlayed}
use Rattle.rail_place.proofs.places.Places.take_back.Given as goal

abbrev pub invariant-loop-last : goal.invariant-loop-last
invariant-loop-last l = record {
  made : IsMadeFor l.moves l.self;
  trains : All (λ t. t < length l.moves) l.left;
  back : (s : List ℕ) → IsPlayed (moves_in l.moves) s l.fn.list l.fn.self.positions → IsPlayed (moves_in l.moves) s l.left l.self.positions;
  played : l.self.played ≡ l.initial.self.played;
}

abbrev pub decreases-loop-last : goal.decreases-loop-last
decreases-loop-last l = length l.left
