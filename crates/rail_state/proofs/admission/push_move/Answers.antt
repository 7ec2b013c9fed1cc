use Rattle.std.proofs.Common.{arith}
use Rattle.rail_block.proofs.CallerLemmas.{few_steps}
use Rattle.rail_state.proofs.admission.push_move.Goals as goal

pub push_steps-requires-clause-room : goal.push_steps-requires-clause-room
push_steps-requires-clause-room c = omega (arith, few_steps c.args.known.now, c.requires.room, c.push_beginning.ensures.spare)

pub push_end-requires-clause-room : goal.push_end-requires-clause-room
push_end-requires-clause-room c = omega (arith, few_steps c.args.known.now, c.requires.room, c.push_beginning.ensures.spare, c.push_steps.ensures.spare)
