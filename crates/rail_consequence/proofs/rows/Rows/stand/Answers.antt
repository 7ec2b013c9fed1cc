use Rattle.std.proofs.Common.{◌∙◌, sym, arith}
use Rattle.rail_place.specs.Tables.{moves_in}
use Rattle.rail_sets.proofs.CallerLemmas.{has_first}
use Rattle.rail_consequence.proofs.SetLemmas.{stands_at}
use Rattle.rail_consequence.proofs.rows.Rows.stand.Goals as goal

pub returns-clause-set : goal.returns-clause-set
returns-clause-set g c = λ x.
    let plan = moves_in c.args.moves.now in
    let t = c.args.train in
    let p = c.args.place in
    has_first c.at.result.now.stand c.WORDS.result x
    (λ is. let at = stands_at plan t p x c.requires.table.valid c.requires.train (sym (c.at.ensures.stand x) ∙ is) in omega (arith, c.requires.words.all t at.0 x c.requires.train at.1, c.WORDS.ensures))
    ∙ c.at.ensures.stand x
