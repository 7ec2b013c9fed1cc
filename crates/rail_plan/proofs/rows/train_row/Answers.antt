use Rattle.std.proofs.Common.{◌≡◌, ◌∙◌, length, ap, arith}
use Rattle.rail_base.specs.declared.plant.TrainRow.{TrainRow}
use Rattle.rail_rules.specs.Plant.{no_train, train}
use Rattle.rail_plan.specs.PlanFaults.{bare}
use Rattle.rail_plan.proofs.Fine.{item_read}
use Rattle.rail_rules.proofs.CallerLemmas.{row_in_range}
use Rattle.rail_plan.proofs.rows.train_row.Goals as goal

pub returns-clause-few : goal.returns-clause-few
returns-clause-few c =
    let row : c.index-as_slice-from.result ≡ train (bare c.args.tables.now) c.args.number =
    item_read c.as_slice.result.now c.args.tables.now.trains c.from.result c.args.number c.index-as_slice-from.result no_train c.as_slice.ensures (c.from.ensures ∙ c.number.view_is) c.requires.train c.index-as_slice-from.is in
    omega (arith, (row_in_range (bare c.args.tables.now) c.requires.tables.trains c.args.number c.requires.train).few_moves, ap (λ (r : TrainRow). length r.moves) row)
