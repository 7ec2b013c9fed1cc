use Rattle.rail_input.proofs.FileOrder.{each_fault}
use Rattle.rail_input.proofs.OfBytes.{commands_fault}
use Rattle.rail_input.proofs.inputs.commands_of.Goals as goal

pub returns-in-Some-clause-of_bytes : goal.returns-in-Some-clause-of_bytes
returns-in-Some-clause-of_bytes c =
    each_fault c.read_commands.result _ _
    (commands_fault c.names.result.now.sections.keys c.names.result.now.trains.keys c.in-Some.bytes.now) c.read_commands.ensures.refused
