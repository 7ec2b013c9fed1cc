use Rattle.std.proofs.Common.{Ok, take}
use Rattle.std.specs.Prelude.{flat_map}
use Rattle.rail_insert.specs.Texts.{bar_line}
use Rattle.rail_text.specs.Names.{names_in}
use Rattle.rail_text.specs.Writes.{WritesText}
use Rattle.rail_insert.proofs.writing.write_bars.Given as goal

abbrev pub invariant-loop-bar : goal.invariant-loop-bar
invariant-loop-bar g l = WritesText g.O.Sink l.initial.out l.out (flat_map (bar_line (names_in l.names) l.train) (take l.bar-index l.bars)) (Ok tt)
