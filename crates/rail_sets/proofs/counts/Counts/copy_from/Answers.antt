use Rattle.std.proofs.Common.{[], length, ap, arith}
use Rattle.std.proofs.lemmas.List.{ext_get_or}
use Rattle.rail_sets.proofs.counts.Counts.copy_from.Goals as goal

pub returns : goal.returns
returns c = ext_get_or [] c.loop-index.self-inside.columns.items c.args.other.now c.loop-index.invariant.long (λ k lt. c.loop-index.invariant.same k (omega (arith, lt, c.loop-index.invariant.long, c.loop-index-test.false, c.other.invariant.0, ap length c.other.view_is)))
