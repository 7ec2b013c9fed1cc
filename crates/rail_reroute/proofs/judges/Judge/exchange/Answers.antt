use Rattle.std.proofs.Common.{List, sym, subst}
use Rattle.rail_place.specs.Tables.{MoveLists, moves_in}
use Rattle.rail_consequence.specs.AnalystStates.{AreAlikeBut}
use Rattle.rail_consequence.specs.Needs.{IsRowsOf, SetRows}
use Rattle.rail_reroute.proofs.Exchanged.{alike}
use Rattle.rail_reroute.proofs.judges.Judge.exchange.Goals as goal

pub exchange-requires-2-clause-aside : goal.exchange-requires-2-clause-aside
exchange-requires-2-clause-aside c =
    let table : List MoveLists = c.args.self.now.moves in
    let P : List MoveLists → Type 0 = λ now. AreAlikeBut c.args.train (moves_in table) (moves_in now) in
    c.set_aside.ensures.aside (moves_in c.exchange.new.self) (subst P (sym c.exchange.ensures.here) (alike table c.args.train _))

pub returns-clause-back : goal.returns-clause-back
returns-clause-back c =
    let table : List MoveLists = c.args.self.now.moves in
    let P : SetRows → Type 0 = λ rows. IsRowsOf (moves_in table) rows in
    c.exchange-2.ensures.back (moves_in table) (subst P (sym c.set_aside.ensures.rows) c.requires.analyst.rows) c.requires.train
