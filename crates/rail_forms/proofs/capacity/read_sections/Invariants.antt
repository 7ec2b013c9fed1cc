use Rattle.std.proofs.Common.{drop, length}
use Rattle.rail_forms.specs.Capacity.{pieces}
use Rattle.rail_forms.proofs.Pieces.{AreRead}
use Rattle.rail_forms.proofs.capacity.read_sections.Given as goal

abbrev pub invariant-loop-piece : goal.invariant-loop-piece
invariant-loop-piece l = AreRead l.names.sections.keys (pieces l.line) (drop (length l.yielded) (pieces l.line)) (length l.yielded) l.sections.items
