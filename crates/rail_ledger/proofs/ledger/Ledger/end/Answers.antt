use Rattle.rail_ledger.proofs.Going.{ended_at}
use Rattle.rail_ledger.proofs.ledger.Ledger.end.Goals as goal

pub returns-clause-line : goal.returns-clause-line
returns-clause-line c = λ front at. ended_at front c.args.self.now at c.requires.going c.requires.settled c.requires.empty c.list_remaining.new.into c.list_remaining.ensures.room c.list_remaining.ensures.trains
