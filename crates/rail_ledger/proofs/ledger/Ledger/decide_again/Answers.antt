use Rattle.rail_ledger.proofs.Deciding.{again_at}
use Rattle.rail_ledger.proofs.ledger.Ledger.decide_again.Goals as goal

pub returns-then-is_any_waiting-clause-at : goal.returns-then-is_any_waiting-clause-at
returns-then-is_any_waiting-clause-at c = λ front at. again_at front c.args.self.now at (c.is_any_waiting.ensures c.if-is_any_waiting.true)
