use Rattle.std.proofs.Common.{ap, subst}
use Rattle.rail_base.specs.declared.plant.Tables.{Tables}
use Rattle.rail_rules.specs.Plant.{Plant}
use Rattle.rail_plan.specs.PlanFaults.{IsPlannable}
use Rattle.rail_plan.proofs.Accepting.{plannable}
use Rattle.rail_plan.proofs.plant.Plant.into_parts.Goals as goal

pub returns-clause-plannable : goal.returns-clause-plannable
returns-clause-plannable c =
    let P : Tables → Type 0 = λ tables. IsPlannable tables in
    subst P (ap (λ (plant : Plant). plant.tables) c.self.view_is) (plannable c.self.inside.tables c.self.inside.calls c.self.invariant.accepted)
