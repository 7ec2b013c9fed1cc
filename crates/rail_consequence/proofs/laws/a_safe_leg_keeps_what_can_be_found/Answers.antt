use Rattle.rail_consequence.proofs.Safe.{safe_leg_keeps}
use Rattle.rail_consequence.proofs.laws.a_safe_leg_keeps_what_can_be_found.Goals as goal

pub returns : goal.returns
returns c = safe_leg_keeps
