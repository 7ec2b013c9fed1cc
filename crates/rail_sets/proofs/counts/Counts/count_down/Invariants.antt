use Rattle.std.proofs.Common.{◌≡◌, vec_capacity}
use Rattle.rail_sets.specs.declared.sets.TheConstants.{WORDS}
use Rattle.rail_sets.proofs.Digits.{IsDown}
use Rattle.rail_sets.proofs.counts.Counts.count_down.Given as goal

abbrev pub invariant-loop-index : goal.invariant-loop-index
invariant-loop-index l = record {
  kept : IsDown l.fn.self l.self-inside.columns.items l.set l.other l.index;
  room : vec_capacity l.self-inside.columns ≡ WORDS;
}
