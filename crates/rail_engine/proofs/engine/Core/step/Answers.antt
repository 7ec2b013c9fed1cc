use Rattle.rail_engine.proofs.Asking.{step_asks, step_tells}
use Rattle.rail_engine.proofs.Continuing.{stepped}
use Rattle.rail_engine.proofs.engine.Core.step.Goals as goal

pub returns-clause-line : goal.returns-clause-line
returns-clause-line g c = stepped c.args.self.now c.self.inside.ledger c.next_line.new.ledger _ _ c.self.view_is c.next_line.result c.next_line.ensures.line c.next_line.ensures.run

pub returns-clause-asked : goal.returns-clause-asked
returns-clause-asked g c = step_asks c.args.self.now c.self.inside.ledger _ _ c.self.view_is c.next_line.result c.next_line.ensures.asked

pub returns-clause-told : goal.returns-clause-told
returns-clause-told g c = step_tells c.args.self.now c.self.inside.ledger _ _ c.self.view_is c.next_line.result c.next_line.ensures.told
