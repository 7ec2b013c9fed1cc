use Rattle.std.proofs.Common.{◌≡◌, ◌++◌, List, ℕ, Ok, length}
use Rattle.rail_explain.specs.Terminals.{shown_text}
use Rattle.rail_text.specs.Writes.{WritesText}
use Rattle.rail_explain.proofs.terminals.write_shown.Given as goal

abbrev pub invariant-loop-byte : goal.invariant-loop-byte
invariant-loop-byte g l = record {
  said : List ℕ;
  written : WritesText g.O.Sink l.initial.out l.out said (Ok tt);
  whole : said ++ shown_text l.left ≡ shown_text l.text;
}

abbrev pub decreases-loop-byte : goal.decreases-loop-byte
decreases-loop-byte g l = length l.left
