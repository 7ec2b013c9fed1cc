use Rattle.std.proofs.Common.{arith, rules}
use Rattle.rail_sets.proofs.Words.{made_more, replaced, replaced_at}
use Rattle.rail_sets.proofs.sets.fill_replaced.Goals as goal

pub loop-index-preserved : goal.loop-index-preserved
loop-index-preserved c =
    let n = c.loop-index.index in
    made_more (replaced c.args.other.now c.args.gone.now c.args.come.now) c.args.set.now c.loop-index.set n _
    (omega (arith, c.loop-index-test.true, c.requires.set, c.loop-index.invariant.long)) c.loop-index.invariant
    (replaced_at c.args.other.now c.args.gone.now c.args.come.now n (search rules))
