use Rattle.std.specs.Prelude.{◌++◌, ℕ, List, length}
use Rattle.rail_rules.specs.Fronts.{Line}
use Rattle.rail_rules.specs.Plant.{Plant}
use Rattle.rail_text.specs.Names.{HasNames}
use Rattle.rail_history.specs.ReadFiles.{IsReadTo, IsReading, text_left}
use Rattle.rail_history.proofs.file_lines.FileLines.read_rest.Given as goal

abbrev pub invariant-loop-alloc : goal.invariant-loop-alloc
invariant-loop-alloc l = record {
  reading : IsReading l.self;
  so_far : (plant : Plant) → HasNames plant l.names → (bytes : List ℕ) (lines : List Line) → IsReadTo plant bytes lines l.fn.self
      → (more : List Line) × IsReadTo plant bytes (lines ++ more) l.self;
}

abbrev pub decreases-loop-alloc : goal.decreases-loop-alloc
decreases-loop-alloc l = length (text_left l.self)
