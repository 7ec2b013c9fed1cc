use Rattle.std.proofs.Common.{◌≡◌, length}
use Rattle.rail_history.specs.ReadFiles.{IsReading, text_left}
use Rattle.rail_check.specs.Checkers.{IsFollowing, KeepsUp}
use Rattle.rail_check.proofs.checker.Checker.follow.Given as goal

abbrev pub invariant-loop-alloc : goal.invariant-loop-alloc
invariant-loop-alloc l = record {
  following : IsFollowing l.self l.file;
  reading : IsReading l.file;
  input : l.self.ledger.input ≡ l.fn.self.ledger.input;
  keeps : KeepsUp l.fn.self l.fn.file l.self l.file;
}

abbrev pub decreases-loop-alloc : goal.decreases-loop-alloc
decreases-loop-alloc l = length (text_left l.file)
