use Rattle.std.proofs.Common.{arith}
use Rattle.rail_ledger.specs.declared.ledger.Ledger.{Ledger}
use Rattle.rail_ledger.proofs.DueNow.{due_lawful}
use Rattle.rail_ledger.proofs.Judged.{hold_none}
use Rattle.rail_ledger.proofs.Room.{place_fits}
use Rattle.rail_ledger.proofs.ledger.Ledger.hold_due.Goals as goal

pub hold_line-requires-clause-place : goal.hold_line-requires-clause-place
hold_line-requires-clause-place c = omega (
  arith,
  place_fits c.requires.running.front c.args.self.now c.requires.running.at c.args.train (omega (arith, c.requires.due.train, c.requires.running.at.rep.times.many)),
)

pub returns : goal.returns
returns c =
    let ledger : Ledger = c.args.self.now in
    let running = c.requires.running in
    let said = due_lawful running.front ledger running.at c.args.train c.requires.due c.hold_line.result c.hold_line.ensures in
    record {
      going = c.requires.due.going;
      unlisted = c.requires.unlisted;
      other = hold_none c.hold_line.result said.0;
      lawful = λ front at. (due_lawful front ledger at c.args.train c.requires.due c.hold_line.result c.hold_line.ensures).1;
      next = c.requires.due;
    }
