use Rattle.rail_reroute.proofs.JoinedLines.{AreReadTo}
use Rattle.rail_reroute.proofs.proposals.read_lines.Given as goal

abbrev pub invariant-loop-number : goal.invariant-loop-number
invariant-loop-number l = AreReadTo l.trains.keys l.routes.keys l.bytes l.proposals.items l.number-iterator
