use Rattle.std.proofs.Common.{[], ◌∙◌, ap, get_or, arith, rules}
use Rattle.std.proofs.lemmas.List.{get_or_default}
use Rattle.rail_sets.proofs.Digits.{sorted_more}
use Rattle.rail_sets.proofs.counts.Counts.fill_falls.Goals as goal

pub loop-index-preserved : goal.loop-index-preserved
loop-index-preserved c =
    let n = c.loop-index.index in
    sorted_more c.args.self.now c.args.from.now c.args.to.now c.args.fell.now c.loop-index.fell c.args.shared.now c.loop-index.shared c.loop-index.any n c.many.result c.twice.result c.index-column.result.now
    (omega (arith, c.loop-index-test.true, c.requires.fell, c.loop-index.invariant.fell.long))
    (omega (arith, c.loop-index-test.true, c.requires.shared, c.loop-index.invariant.shared.long))
    c.many.ensures c.twice.ensures
    (c.index-column.ensures ∙ get_or_default c.self.inside.columns.items n c.index-column.result.now [] (omega (arith, c.loop-index-test.true, c.requires.from, c.self.invariant.0)) ∙ ap (λ columns. get_or columns n []) c.self.view_is)
    (search rules) (search rules) c.loop-index.invariant
