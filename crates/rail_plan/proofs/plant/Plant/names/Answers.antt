use Rattle.std.proofs.Common.{length, ap, arith}
use Rattle.std.proofs.lemmas.List.{length-map}
use Rattle.rail_base.specs.declared.plant.SectionRow.{SectionRow}
use Rattle.rail_base.specs.declared.plant.TrainRow.{TrainRow}
use Rattle.rail_plan.proofs.Accepting.{plannable}
use Rattle.rail_plan.proofs.plant.Plant.names.Goals as goal

pub returns-clause-few_sections : goal.returns-clause-few_sections
returns-clause-few_sections c =
    let tables = c.self.inside.tables in
    omega (arith, (plannable tables c.self.inside.calls c.self.invariant.accepted).few_sections, ap length c.self.invariant.sections, length-map tables.sections (λ (row : SectionRow). row.name))

pub returns-clause-few_trains : goal.returns-clause-few_trains
returns-clause-few_trains c =
    let tables = c.self.inside.tables in
    omega (arith, (plannable tables c.self.inside.calls c.self.invariant.accepted).few_trains, ap length c.self.invariant.trains, length-map tables.trains (λ (row : TrainRow). row.name))
