use Rattle.std.proofs.Common.{◌≡◌, drop}
use Rattle.rail_state.specs.Admissions.{CanBeTaken}
use Rattle.rail_laws_step.specs.HolderTables.{taken_by}
use Rattle.rail_state.proofs.admission.take_each.Given as goal

abbrev pub invariant-loop-section : goal.invariant-loop-section
invariant-loop-section l = record {
  taken : taken_by l.holders (drop l.section-index l.sections) l.train ≡ taken_by l.fn.holders l.sections l.train;
  rest : CanBeTaken l.holders l.train l.own (drop l.section-index l.sections);
}
