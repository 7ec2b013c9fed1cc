use Rattle.rail_text.specs.Lines.{lines_of}
use Rattle.rail_edit_file.proofs.JoinedLines.{AreReadTo}
use Rattle.rail_edit_file.proofs.making.edit_lines.Given as goal

abbrev pub invariant-loop-number : goal.invariant-loop-number
invariant-loop-number l = AreReadTo (lines_of l.bytes) l.fn.editor l.editor l.number-iterator
