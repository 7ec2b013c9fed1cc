-- What a writer of a history has added to its output.
use Rattle.std.specs.Prelude.{◌≤◌}
use Rattle.rail_io.specs.FaultCounts.{Rose}
use Rattle.rail_io.specs.Writes.{Adds, AddsPrefix}
use Rattle.rail_io.specs.declared.sink.Sink.{Ghosts}
use Rattle.rail_rules.specs.Fronts.{Front}
use Rattle.rail_rules.specs.Orders.{Input}
use Rattle.rail_rules.specs.Texts.{text}

-- the text of the front was added to the output
pub record AreWritten {O : Type 0} (sink : Ghosts O) (input : Input) (front : Front) (before now : O) : Type 0 where
  pub adds : Adds (sink.written before) (sink.written now) (text input.plant front)
  pub faults_never_fall : sink.faults before ≤ sink.faults now

-- a first part of the text of the front was added to the output, and then a write failed
pub record IsWrittenInPart {O : Type 0} (sink : Ghosts O) (input : Input) (front : Front) (before now : O) : Type 0 where
  pub adds : AddsPrefix (sink.written before) (sink.written now) (text input.plant front)
  pub rose : Rose (sink.faults before) (sink.faults now)
  pub faults_never_fall : sink.faults before ≤ sink.faults now
