use Rattle.std.proofs.Common.{◌∙◌, sym, arith}
use Rattle.rail_place.specs.Tables.{moves_in}
use Rattle.rail_sets.proofs.CallerLemmas.{has_first}
use Rattle.rail_consequence.proofs.SetLemmas.{needs_at}
use Rattle.rail_consequence.proofs.rows.Rows.rest.Goals as goal

pub returns-clause-set : goal.returns-clause-set
returns-clause-set g c = λ x.
    let plan = moves_in c.args.moves.now in
    let t = c.args.train in
    let p = c.args.place in
    has_first c.at.result.now.rest c.WORDS.result x
    (λ is. let at = needs_at plan t p x (sym (c.at.ensures.rest x) ∙ is) in omega (arith, c.requires.words.all t at.0 x c.requires.train at.1, c.WORDS.ensures))
    ∙ c.at.ensures.rest x
