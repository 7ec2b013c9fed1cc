use Rattle.rail_command_file.proofs.JoinedLines.{AreReadTo}
use Rattle.rail_command_file.proofs.commands.read_commands.Given as goal

abbrev pub invariant-loop-number : goal.invariant-loop-number
invariant-loop-number l = AreReadTo l.names l.bytes l.commands.items l.number-iterator
