use Rattle.std.proofs.Common.{[], ◌∙◌, ◌/◌, ap, get_or, ⊎_elim, arith, rules}
use Rattle.std.proofs.lemmas.Bool.{cases_lt}
use Rattle.std.proofs.lemmas.List.{get_or_default}
use Rattle.rail_sets.proofs.Digits.{more_at, once_at}
use Rattle.rail_sets.proofs.Words.{has_within}
use Rattle.rail_sets.proofs.counts.Counts.are_once.Goals as goal

pub returns-then-word-many-ne0-clause-more : goal.returns-then-word-many-ne0-clause-more
returns-then-word-many-ne0-clause-more c = λ _.
    let n = c.loop-index.index in
    more_at c.args.self.now c.args.set.now n c.many.result c.index.result.now c.many.ensures
    (c.index.ensures ∙ get_or_default c.self.inside.columns.items n c.index.result.now [] (omega (arith, c.loop-index-test.true, c.requires, c.self.invariant.0)) ∙ ap (λ columns. get_or columns n []) c.self.view_is)
    (search rules) c.if-word-many-ne0.true

pub loop-index-preserved : goal.loop-index-preserved
loop-index-preserved c = λ x low is.
    let n = c.loop-index.index in
    ⊎_elim
    (λ before. c.loop-index.invariant x (omega (arith, before)) is)
    (λ here.
    once_at c.args.self.now c.args.set.now n c.many.result c.index.result.now c.many.ensures
    (c.index.ensures ∙ get_or_default c.self.inside.columns.items n c.index.result.now [] (omega (arith, c.loop-index-test.true, c.requires, c.self.invariant.0)) ∙ ap (λ columns. get_or columns n []) c.self.view_is)
    c.if-word-many-ne0.false x (omega (arith, here, low)) is)
    (cases_lt (x / 64) n)

pub returns-clause-once : goal.returns-clause-once
returns-clause-once c = λ _ x is. c.loop-index.invariant x (omega (arith, has_within c.args.set.now x is, c.loop-index-test.false)) is
