use Rattle.std.proofs.Common.{sym}
use Rattle.rail_policy.proofs.InForce.{name-index_of}
use Rattle.rail_policy.proofs.desk.Desk.exchange.Goals as goal

pub returns-clause-in_force : goal.returns-clause-in_force
returns-clause-in_force g c = name-index_of _ _ _ (sym c.in-Some.ensures.index)
