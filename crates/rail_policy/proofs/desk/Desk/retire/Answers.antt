use Rattle.rail_policy.proofs.InForce.{seat_in_force-without}
use Rattle.rail_policy.proofs.desk.Desk.retire.Goals as goal

pub returns-clause-same_in_force : goal.returns-clause-same_in_force
returns-clause-same_in_force g c =
    seat_in_force-without _ _ c.in-Some.index c.drop_at.ensures.table c.in-Some.ensures.in_range c.if-index-self.false
