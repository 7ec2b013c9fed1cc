use Rattle.rail_ledger.proofs.DueNow.{given_due}
use Rattle.rail_ledger.proofs.Judged.{hold_none}
use Rattle.rail_ledger.proofs.ledger.Ledger.take_due.Goals as goal

pub returns-in-Some-clause-taken : goal.returns-in-Some-clause-taken
returns-in-Some-clause-taken c =
    let given = c.hold_train.ensures in
    given_due c.args.self.now c.hold_train.new.self c.args.due.now c.requires.due c.hold_train.result (hold_none c.hold_train.result.what given.kind.0) given.input given.line

pub returns-in-None-clause-taken : goal.returns-in-None-clause-taken
returns-in-None-clause-taken c =
    let given = c.go_on.ensures in
    given_due c.args.self.now c.go_on.new.self c.args.due.now c.requires.due c.go_on.result given.kind.0 given.input given.line
