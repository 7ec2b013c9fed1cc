use Rattle.std.proofs.Common.{Ok, take}
use Rattle.rail_insert.specs.Texts.{copies_text}
use Rattle.rail_text.specs.Names.{names_in}
use Rattle.rail_text.specs.Writes.{WritesText}
use Rattle.rail_insert.proofs.writing.write_copies.Given as goal

abbrev pub invariant-loop-index : goal.invariant-loop-index
invariant-loop-index g l = WritesText g.O.Sink l.initial.out l.out (copies_text (names_in l.names) l.train 1 (take l.index l.copies)) (Ok tt)
