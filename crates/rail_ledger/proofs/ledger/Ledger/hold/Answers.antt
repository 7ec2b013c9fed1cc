use Rattle.std.proofs.Common.{refl}
use Rattle.rail_ledger.proofs.Holding.{settled_at}
use Rattle.rail_ledger.proofs.ledger.Ledger.hold.Goals as goal

pub returns-in-None-clause-none : goal.returns-in-None-clause-none
returns-in-None-clause-none c = λ none. (c.requires.going, refl, c.requires.unlisted, λ front at. settled_at front c.args.self.now at c.requires.known c.in-None.ensures)
