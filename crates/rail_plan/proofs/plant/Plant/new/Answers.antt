use Rattle.std.proofs.Common.{◌≡◌, None, ap, ◌∙◌}
use Rattle.rail_rules.specs.Accepted.{is_accepted}
use Rattle.rail_plan.specs.PlanFaults.{fault_of}
use Rattle.rail_plan.specs.CallTables.{with_calls}
use Rattle.rail_plan.proofs.Accepting.{bare_accepted}
use Rattle.rail_plan.proofs.plant.Plant.new.Goals as goal

pub returns-clause-valid : goal.returns-clause-valid
returns-clause-valid c =
    let tables = c.args.tables in
    let none : fault_of tables ≡ None = c.in_ok-moves.ensures.accepted in
    ap (λ calls. is_accepted (with_calls tables calls)) c.none.ensures ∙ bare_accepted tables c.requires none

pub invariant_of-result : goal.invariant_of-result
invariant_of-result c =
    record {
      accepted = returns-clause-valid c;
      sections = c.in_ok-names.ensures.sections;
      trains = c.in_ok-names.ensures.trains;
      moves = c.in_ok-moves.ensures.moves;
      spelled = c.in_ok-moves.ensures.table;
    }
