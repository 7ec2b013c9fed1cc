use Rattle.std.proofs.Common.{◌≡◌, ℕ, ◌<◌, [], length, get_or, vec_capacity}
use Rattle.rail_sets.specs.Counts.{column}
use Rattle.rail_sets.specs.declared.sets.TheConstants.{WORDS}
use Rattle.rail_sets.proofs.counts.Counts.new.Given as goal

abbrev pub invariant-loop-column : goal.invariant-loop-column
invariant-loop-column l = record {
  long : length l.columns.items ≡ l._column;
  none : (k bit : ℕ) → k < l._column → bit < 64 → column (get_or l.columns.items k []) bit ≡ 0;
  room : vec_capacity l.columns ≡ WORDS;
}
