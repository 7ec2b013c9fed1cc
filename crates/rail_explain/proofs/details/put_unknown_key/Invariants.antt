use Rattle.std.proofs.Common.{◌≡◌}
use Rattle.rail_explain.proofs.details.put_unknown_key.Given as goal

abbrev pub invariant-loop-text : goal.invariant-loop-text
invariant-loop-text l = l.line ≡ l.initial.line
