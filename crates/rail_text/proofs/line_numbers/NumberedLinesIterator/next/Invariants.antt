use Rattle.std.proofs.Common.{◌≡◌, ◌+◌, ◌-◌, ◌^◌, ◌<◌, length}
use Rattle.std.specs.Str.Lines.{lines}
use Rattle.rail_text.specs.Lines.{lines_from}
use Rattle.rail_text.proofs.line_numbers.NumberedLinesIterator.next.Given as goal

-- only lines that are skipped were passed over
abbrev pub invariant-loop-line : goal.invariant-loop-line
invariant-loop-line l = record {
  same : lines_from (l.self-inside.passed + 1) (lines l.self-inside.text.now) ≡ l.fn.self;
  fits : l.self-inside.passed + length l.self-inside.text.now < 2 ^ 32 - 1;
}

abbrev pub decreases-loop-line : goal.decreases-loop-line
decreases-loop-line l = length l.self-inside.text.now
