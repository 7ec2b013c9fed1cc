use Rattle.rail_laws_verdict.proofs.Judged.{decided_where_others_follow}
use Rattle.rail_laws_verdict.proofs.laws.where_another_line_follows_nothing_is_left_to_decide.Goals as goal

pub returns : goal.returns
returns c = decided_where_others_follow
