use Rattle.std.proofs.Common.{◌≡◌, sym, ap, subst}
use Rattle.rail_base.specs.declared.plant.Tables.{Tables}
use Rattle.rail_rules.specs.Plant.{Plant}
use Rattle.rail_plan.specs.CallTables.{AreCallsFor}
use Rattle.rail_plan.proofs.Accepting.{recalled}
use Rattle.rail_plan.proofs.plant.Plant.with_calls.Goals as goal

pub returns-clause-valid : goal.returns-clause-valid
returns-clause-valid c =
    let P : Tables → Type 0 = λ tables. AreCallsFor tables c.args.calls in
    let same : c.self.inside.tables ≡ c.args.self.tables = ap (λ (plant : Plant). plant.tables) c.self.view_is in
    recalled c.self.inside.tables c.self.inside.calls c.args.calls c.self.invariant.accepted (subst P (sym same) c.requires)

pub invariant_of-result : goal.invariant_of-result
invariant_of-result c =
    record {
      accepted = returns-clause-valid c;
      sections = c.self.invariant.sections;
      trains = c.self.invariant.trains;
      moves = c.self.invariant.moves;
      spelled = c.self.invariant.spelled;
    }
