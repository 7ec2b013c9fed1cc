use Rattle.rail_rules.specs.Plant.{Plant}
use Rattle.rail_text.specs.Names.{HasNames}
use Rattle.rail_history.specs.LineReads.{IsPaired, lines_of}
use Rattle.rail_history.specs.ReadFiles.{IsReadTo, IsReading, text_left}
use Rattle.std.specs.Prelude.{length}
use Rattle.rail_history.proofs.files.read_history.Given as goal

abbrev pub invariant-loop-file : goal.invariant-loop-file
invariant-loop-file l = record {
  so_far : (plant : Plant) → HasNames plant l.names → IsReadTo plant l.bytes (lines_of l.history) l.file;
  paired : IsPaired l.history;
  reading : IsReading l.file;
}

abbrev pub decreases-loop-file : goal.decreases-loop-file
decreases-loop-file l = length (text_left l.file)
