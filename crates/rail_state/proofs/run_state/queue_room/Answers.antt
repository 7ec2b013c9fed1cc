use Rattle.std.proofs.Common.{arith}
use Rattle.rail_state.proofs.QueueRoom.{many_sections}
use Rattle.rail_state.proofs.run_state.queue_room.Goals as goal

pub returns : goal.returns
returns c = omega (arith, c.len-sections.ensures.len, many_sections c.args.plant.now c.names.result.now.sections.keys c.names.ensures.sections, c.trains-trains.ensures.count, c.moves.ensures.trains)
