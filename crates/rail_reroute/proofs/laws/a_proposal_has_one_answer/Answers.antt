use Rattle.rail_reroute.proofs.OneAnswer.{one_answer}
use Rattle.rail_reroute.proofs.laws.a_proposal_has_one_answer.Goals as goal

pub returns : goal.returns
returns c = one_answer
