use Rattle.rail_rules.proofs.StatesKept.{legal_move_kept}
use Rattle.rail_rules.proofs.laws.a_legal_move_keeps_a_valid_state.Goals as goal

pub returns : goal.returns
returns c = legal_move_kept
