use Rattle.std.proofs.Common.{arith, ap}
use Rattle.rail_base.specs.declared.plant.SectionRow.{SectionRow}
use Rattle.rail_plan.proofs.Fine.{at_section}
use Rattle.rail_plan.proofs.standing.route_length.Goals as goal

pub overflow_add-metres : goal.overflow_add-metres
overflow_add-metres c =
    let at = at_section c.args.tables.now c.requires.tables c.args.row.now c.requires.fine c.sections-section-items.result.now c.loop-section.section-index c.section-item.result c.sections-section-items.ensures c.loop-section-test.true c.section-item.is in
    omega (arith, at.more, at.bound, c.loop-section.invariant, ap (λ (r : SectionRow). r.length) c.section_row.ensures)

pub loop-section-preserved : goal.loop-section-preserved
loop-section-preserved c =
    let at = at_section c.args.tables.now c.requires.tables c.args.row.now c.requires.fine c.sections-section-items.result.now c.loop-section.section-index c.section-item.result c.sections-section-items.ensures c.loop-section-test.true c.section-item.is in
    omega (arith, at.more, c.loop-section.invariant, ap (λ (r : SectionRow). r.length) c.section_row.ensures)
