use Rattle.std.proofs.Common.{◌≡◌, map, take}
use Rattle.rail_base.specs.declared.plant.SectionRow.{SectionRow}
use Rattle.rail_plan.proofs.making.section_names.Given as goal

abbrev pub invariant-loop-row : goal.invariant-loop-row
invariant-loop-row l = l.names.keys ≡ map (λ (row : SectionRow). row.name) (take l.row-index l.rows)
