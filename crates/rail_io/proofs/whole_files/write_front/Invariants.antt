-- What was taken so far is the first part of the piece.
use Rattle.std.proofs.Common.{length, ◌≡◌, ◌-◌, ◌≤◌, take}
use Rattle.rail_io.specs.Writes.{Adds}
use Rattle.rail_io.proofs.whole_files.write_front.Given as goal

abbrev pub invariant-loop-done : goal.invariant-loop-done
invariant-loop-done g l = record {
  within : l.done ≤ length l.piece;
  added : Adds (g.O.Sink.written l.initial.sink) (g.O.Sink.written l.sink) (take l.done l.piece);
  untouched : l.done ≡ 0 → l.sink ≡ l.initial.sink;
  faults : g.O.Sink.faults l.initial.sink ≤ g.O.Sink.faults l.sink;
}

abbrev pub decreases-loop-done : goal.decreases-loop-done
decreases-loop-done g l = length l.piece - l.done
