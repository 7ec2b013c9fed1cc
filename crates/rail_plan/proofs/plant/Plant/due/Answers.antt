use Rattle.std.proofs.Common.{◌≡◌, ◌≤◌, ◌-◌, length, ap, ◌∙◌, arith}
use Rattle.std.specs.Option.{unwrap_or, option_or}
use Rattle.rail_base.specs.declared.plant.TrainRow.{TrainRow}
use Rattle.rail_rules.specs.Plant.{Plant, moves}
use Rattle.rail_rules.specs.RunHistories.{due}
use Rattle.rail_plan.specs.PlanFaults.{bare}
use Rattle.rail_plan.specs.CallTables.{departure_within}
use Rattle.rail_plan.proofs.CallRows.{due_later}
use Rattle.rail_plan.proofs.plant.Plant.due.Goals as goal

pub returns : goal.returns
returns c =
    let tables = c.self.inside.tables in
    let calls = c.self.inside.calls in
    let t = c.args.train in
    let row = c.train_row-row.ensures.row in
    let last : length c.as_slice.result.now ≡ moves (bare tables) t = ap length c.as_slice.ensures ∙ ap (λ (r : TrainRow). length r.moves) row in
    let from : 2 ≤ c.args.place = omega (arith, c.requires.first, c.if-place-eq1.false) in
    c.unwrap_or.ensures
    ∙ ap (λ o. unwrap_or o c.train_row-row.result.now.entry) (c.or.ensures ∙ ap (λ o. option_or o c.arrival.result) c.first_departure.ensures ∙ ap (λ o. option_or (departure_within calls t (c.args.place - 1 - 1) (length c.as_slice.result.now - (c.args.place - 1))) o) c.arrival.ensures)
    ∙ due_later tables calls t c.args.place (length c.as_slice.result.now) c.train_row-row.result.now.entry from last (ap (λ (r : TrainRow). r.entry) row)
    ∙ ap (λ (plant : Plant). due plant t (c.args.place - 1)) c.self.view_is
