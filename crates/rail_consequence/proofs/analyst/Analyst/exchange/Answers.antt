use Rattle.std.proofs.Common.{sym, subst}
use Rattle.rail_place.specs.Tables.{moves_in}
use Rattle.rail_consequence.specs.Needs.{IsRowsOf, SetRows}
use Rattle.rail_consequence.proofs.Aside.{rows_put}
use Rattle.rail_consequence.proofs.analyst.Analyst.exchange.Goals as goal

pub returns-clause-own : goal.returns-clause-own
returns-clause-own c =
    let plan = moves_in c.args.moves.now in
    let P : SetRows → Type 0 = λ rows. IsRowsOf plan rows in
    let aside = rw (sym c.self.view_is) at c.requires.aside in
    record {
      listed = aside.listed;
      tally = aside.tally;
      noted = aside.noted;
      rows = subst P (sym c.exchange.ensures.here) (rows_put plan c.args.train c.self.inside.sheet.rows c.args.others.now c.requires.train aside.rows c.requires.others);
    }
