use Rattle.std.proofs.Common.{◌≡◌, ℕ, ◌<◌, ◌≤◌, [], length, get_or, vec_capacity}
use Rattle.rail_sets.specs.declared.sets.TheConstants.{WORDS}
use Rattle.rail_sets.proofs.counts.Counts.copy_front.Given as goal

abbrev pub invariant-loop-index : goal.invariant-loop-index
invariant-loop-index l = record {
  long : length l.self-inside.columns.items ≡ length l.other;
  same : (k : ℕ) → k < l.index → get_or l.self-inside.columns.items k [] ≡ get_or l.other k [];
  rest : (k : ℕ) → l.index ≤ k → get_or l.self-inside.columns.items k [] ≡ get_or l.fn.self k [];
  room : vec_capacity l.self-inside.columns ≡ WORDS;
}
