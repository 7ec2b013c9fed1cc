use Rattle.std.proofs.Common.{[], ◌∙◌, ap, get_or, arith, rules}
use Rattle.std.proofs.lemmas.List.{get_or_default}
use Rattle.rail_sets.proofs.Digits.{falls_all, falls_at, with_falls}
use Rattle.rail_sets.proofs.Words.{made_more}
use Rattle.rail_sets.proofs.counts.Counts.add_falls.Goals as goal

pub loop-index-preserved : goal.loop-index-preserved
loop-index-preserved c =
    let n = c.loop-index.index in
    made_more (with_falls c.args.self.now c.args.set.now c.args.from.now c.args.to.now) c.args.set.now c.loop-index.set n _
    (omega (arith, c.loop-index-test.true, c.requires.set, c.loop-index.invariant.long)) c.loop-index.invariant
    (falls_at c.args.self.now c.args.set.now c.loop-index.set c.args.from.now c.args.to.now n c.twice.result c.index.result.now c.twice.ensures
    (c.index.ensures ∙ get_or_default c.self.inside.columns.items n c.index.result.now [] (omega (arith, c.loop-index-test.true, c.requires.from, c.self.invariant.0)) ∙ ap (λ columns. get_or columns n []) c.self.view_is)
    (search rules) (c.loop-index.invariant.rest n (omega arith)))

pub returns-clause-set : goal.returns-clause-set
returns-clause-set c = falls_all c.args.self.now c.args.set.now c.loop-index.set c.args.from.now c.args.to.now c.loop-index.index (omega (arith, c.loop-index-test.false)) c.loop-index.invariant
