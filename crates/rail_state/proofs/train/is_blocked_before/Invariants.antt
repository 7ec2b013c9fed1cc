use Rattle.std.proofs.Common.{◌≡◌, drop}
use Rattle.rail_state.specs.TrainStates.{is_blocked_before}
use Rattle.rail_state.proofs.train.is_blocked_before.Given as goal

abbrev pub invariant-loop-other : goal.invariant-loop-other
invariant-loop-other l = is_blocked_before l.holders l.train l.own l.section (drop l.other-index l.sections) ≡ is_blocked_before l.holders l.train l.own l.section l.sections
