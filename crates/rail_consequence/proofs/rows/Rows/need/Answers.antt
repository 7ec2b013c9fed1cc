use Rattle.std.proofs.Common.{◌∙◌, sym, arith}
use Rattle.rail_place.specs.Tables.{moves_in}
use Rattle.rail_sets.proofs.CallerLemmas.{has_first}
use Rattle.rail_consequence.proofs.rows.Rows.need.Goals as goal

pub returns-clause-set : goal.returns-clause-set
returns-clause-set g c = λ x.
    let plan = moves_in c.args.moves.now in
    let t = c.args.train in
    let p = c.args.place in
    has_first c.at.result.now.need c.WORDS.result x
    (λ is. omega (arith, c.requires.words.all t p x c.requires.train (sym (c.at.ensures.need x) ∙ is), c.WORDS.ensures))
    ∙ c.at.ensures.need x
