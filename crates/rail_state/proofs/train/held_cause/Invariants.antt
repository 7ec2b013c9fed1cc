use Rattle.std.proofs.Common.{◌≡◌, drop}
use Rattle.rail_laws_step.specs.HolderTables.{held_cause}
use Rattle.rail_state.proofs.train.held_cause.Given as goal

abbrev pub invariant-loop-section : goal.invariant-loop-section
invariant-loop-section l = held_cause l.holders l.train l.own (drop l.section-index l.sections) ≡ held_cause l.holders l.train l.own l.sections
