use Rattle.std.proofs.Common.{◌≡◌, ℕ, ◌-◌, ◌<◌, ◌≤◌, length}
use Rattle.rail_rules.specs.Places.{place_of}
use Rattle.rail_place.specs.Tables.{moves_in}
use Rattle.rail_consequence.specs.Needs.{IsTallyFor}
use Rattle.rail_consequence.specs.Stops.{IsNotedTo}
use Rattle.rail_consequence.specs.Workspace.{IsListing}
use Rattle.rail_consequence.proofs.tally.NeedTally.follow.Given as goal

abbrev pub invariant-loop-number : goal.invariant-loop-number
invariant-loop-number g l = record {
  kept : IsTallyFor (moves_in l.moves) l.self;
  same : (u : ℕ) → u < l.number → place_of l.self.positions u ≡ place_of l.places.positions u;
  bound : l.number ≤ length l.self.positions;
  listed : IsListing (moves_in l.moves) l.self.positions l.inside;
  noted : IsNotedTo (moves_in l.moves) l.self.positions l.notes;
}

abbrev pub decreases-loop-number : goal.decreases-loop-number
decreases-loop-number g l = length l.places.positions - l.number
