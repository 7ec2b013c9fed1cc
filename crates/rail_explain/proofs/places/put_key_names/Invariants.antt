use Rattle.std.proofs.Common.{◌≡◌, ◌+◌, ◌*◌, ◌≤◌, ◌++◌, length, drop}
use Rattle.rail_explain.specs.Places.{key_words}
use Rattle.rail_explain.proofs.places.put_key_names.Given as goal

abbrev pub invariant-loop-key : goal.invariant-loop-key
invariant-loop-key l = record {
  text : l.line ++ key_words (drop l.key-index l.keys) ≡ l.initial.line ++ key_words l.keys;
  short : length l.line ≤ length l.initial.line + 13 * l.key-index;
}
