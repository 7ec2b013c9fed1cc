use Rattle.std.proofs.Common.{◌≡◌, ◌+◌, ◌*◌, ◌≤◌, ◌++◌, length, drop}
use Rattle.rail_explain.specs.Terminals.{shown_text}
use Rattle.rail_explain.proofs.terminals.put_bytes.Given as goal

abbrev pub invariant-loop-byte : goal.invariant-loop-byte
invariant-loop-byte l = record {
  text : l.line ++ shown_text (drop l.byte-index l.text) ≡ l.initial.line ++ shown_text l.text;
  short : length l.line ≤ length l.initial.line + 4 * l.byte-index;
}
