use Rattle.std.proofs.Common.{[], ◌∙◌, ◌/◌, ap, get_or, ⊎_elim, arith}
use Rattle.std.proofs.lemmas.Bool.{cases_lt}
use Rattle.std.proofs.lemmas.List.{get_or_default}
use Rattle.rail_sets.proofs.Digits.{no_pairs_at, no_pairs_past}
use Rattle.rail_sets.proofs.counts.Counts.has_pairs.Goals as goal

pub loop-index-preserved : goal.loop-index-preserved
loop-index-preserved c = λ x low.
    let n = c.loop-index.index in
    ⊎_elim
    (λ before. c.loop-index.invariant x (omega (arith, before)))
    (λ here.
    no_pairs_at c.args.self.now c.args.set.now n c.twice.result c.index.result.now c.twice.ensures
    (c.index.ensures ∙ get_or_default c.self.inside.columns.items n c.index.result.now [] (omega (arith, c.loop-index-test.true, c.requires, c.self.invariant.0)) ∙ ap (λ columns. get_or columns n []) c.self.view_is)
    c.if-word-twice-ne0.false x (omega (arith, here, low)))
    (cases_lt (x / 64) n)

pub returns : goal.returns
returns c = λ _ x. ⊎_elim (λ low. c.loop-index.invariant x (omega (arith, low))) (λ past. no_pairs_past c.args.self.now c.args.set.now x (omega (arith, past, c.loop-index-test.false))) (cases_lt (x / 64) c.loop-index.index)
