use Rattle.rail_base.specs.declared.plant.SectionRow.{SectionRow}
use Rattle.rail_plan.proofs.Naming.{inserted}
use Rattle.rail_plan.proofs.making.section_names.Goals as goal

pub loop-row-preserved : goal.loop-row-preserved
loop-row-preserved c =
    inserted (λ (row : SectionRow). row.name) c.args.rows.now c.loop-row.row-index c.row-item.result c.loop-row.names.keys c.insert.new.self.keys c.requires c.loop-row-test.true c.row-item.is c.loop-row.invariant c.in_ok-insert.ensures.keys
