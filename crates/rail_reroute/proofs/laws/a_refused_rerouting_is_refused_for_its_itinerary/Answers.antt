use Rattle.rail_reroute.proofs.Refused.{refused}
use Rattle.rail_reroute.proofs.laws.a_refused_rerouting_is_refused_for_its_itinerary.Goals as goal

pub returns : goal.returns
returns c = λ scene s t routes refusal h is. refused scene s t routes h refusal is
