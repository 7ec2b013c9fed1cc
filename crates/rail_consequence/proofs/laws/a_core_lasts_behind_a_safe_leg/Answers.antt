use Rattle.rail_consequence.proofs.Lasting.{core_leg}
use Rattle.rail_consequence.proofs.laws.a_core_lasts_behind_a_safe_leg.Goals as goal

pub returns : goal.returns
returns c = core_leg
