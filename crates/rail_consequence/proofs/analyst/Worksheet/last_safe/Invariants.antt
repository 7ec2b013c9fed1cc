use Rattle.std.proofs.Common.{◌≡◌, ℕ, ◌<◌, ◌≤◌, false}
use Rattle.rail_rules.specs.Analysis.{is_safe}
use Rattle.rail_place.specs.Tables.{moves_in}
use Rattle.rail_consequence.proofs.analyst.Worksheet.last_safe.Given as goal

abbrev pub invariant-loop-end : goal.invariant-loop-end
invariant-loop-end g l = record {
  most : l.end ≤ l.most;
  unsafe : (p : ℕ) → l.end < p → p ≤ l.most → is_safe (moves_in l.moves) l.self.places.positions (record { train = l.train; place = p }) ≡ false;
}

abbrev pub decreases-loop-end : goal.decreases-loop-end
decreases-loop-end g l = l.end
