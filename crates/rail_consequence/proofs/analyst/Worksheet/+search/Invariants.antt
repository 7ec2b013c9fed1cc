use Rattle.std.proofs.Common.{◌≡◌, ℕ, ◌+◌, ◌*◌, ◌<◌, ◌≤◌, true, false, length, set}
use Rattle.rail_rules.specs.Places.{place_of}
use Rattle.rail_rules.specs.Analysis.{Finds, is_leg}
use Rattle.rail_place.specs.Tables.{moves_in}
use Rattle.rail_sets.specs.TrainSets.{has_train, size_of}
use Rattle.rail_consequence.specs.Workspace.{IsBack, IsReady}
use Rattle.rail_consequence.proofs.Stopping.{IsOpen}
use Rattle.rail_consequence.proofs.analyst.Worksheet.+search.Given as goal

abbrev pub decreases-search : goal.decreases-search
decreases-search g l = 6 * l.depth + 1

abbrev pub decreases-search_on : goal.decreases-search_on
decreases-search_on g l = 6 * l.depth

abbrev pub decreases-try_free_legs : goal.decreases-try_free_legs
decreases-try_free_legs g l = 6 * l.depth + 5

abbrev pub decreases-try_legs_of : goal.decreases-try_legs_of
decreases-try_legs_of g l = 6 * l.depth + 4

abbrev pub decreases-try_leg : goal.decreases-try_leg
decreases-try_leg g l = 6 * l.depth + 3

abbrev pub decreases-search_behind : goal.decreases-search_behind
decreases-search_behind g l = 6 * l.depth + 2

abbrev pub decreases-is_hopeless : goal.decreases-is_hopeless
decreases-is_hopeless g l = 6 * l.depth + 3

abbrev pub decreases-is_found_without : goal.decreases-is_found_without
decreases-is_found_without g l = 6 * l.depth + 2

abbrev pub invariant-try_free_legs-loop-train : goal.invariant-try_free_legs-loop-train
invariant-try_free_legs-loop-train g l = record {
  ready : IsReady l.moves l.self;
  back : IsBack l.fn.self l.self;
  known : (t : ℕ) → has_train l.openers t ≡ true → t < length l.moves;
  none : (u p : ℕ) → has_train l.openers u ≡ false → is_leg (moves_in l.moves) l.fn.self.places.positions (record { train = u; place = p }) ≡ true → Finds (moves_in l.moves) l.depth (set l.fn.self.places.positions u p) → ⊥;
}

abbrev pub decreases-try_free_legs-loop-train : goal.decreases-try_free_legs-loop-train
decreases-try_free_legs-loop-train g l = size_of l.openers

abbrev pub invariant-try_legs_of-loop-made : goal.invariant-try_legs_of-loop-made
invariant-try_legs_of-loop-made g l = record {
  ready : IsReady l.moves l.self;
  back : IsBack l.fn.self l.self;
  free : IsOpen (moves_in l.moves) l.fn.self.places.positions l.train l.made;
  tried : (p : ℕ) → place_of l.fn.self.places.positions l.train < p → p ≤ l.made → Finds (moves_in l.moves) l.depth (set l.fn.self.places.positions l.train p) → ⊥;
}
