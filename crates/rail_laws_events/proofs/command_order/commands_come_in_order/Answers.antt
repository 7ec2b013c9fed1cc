use Rattle.rail_laws_events.proofs.InOrder.{in_order}
use Rattle.rail_laws_events.proofs.command_order.commands_come_in_order.Goals as goal

pub returns : goal.returns
returns c = in_order
