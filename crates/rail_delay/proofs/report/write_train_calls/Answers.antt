use Rattle.std.proofs.Common.{length, ap, arith}
use Rattle.rail_base.specs.declared.plant.MoveRow.{MoveRow}
use Rattle.rail_base.specs.declared.plant.TrainRow.{TrainRow}
use Rattle.rail_rules.specs.Plant.{call_after, moves}
use Rattle.rail_delay.specs.Reports.{call_line}
use Rattle.rail_delay.proofs.Writes.{failed_at}
use Rattle.rail_delay.proofs.report.write_train_calls.Goals as goal

pub returns-in_err-write_call : goal.returns-in_err-write_call
returns-in_err-write_call g c =
    failed_at g.O.Sink _ _ _ (λ m. call_line c.args.plant.now c.args.train c.args.row.now m (call_after c.args.plant.now c.args.train m)) (moves c.args.plant.now c.args.train) c.loop-index.index _
    c.from_residual.result c.from_residual.ensures.0
    (omega (arith, c.loop-index-test.true, c.loop-index.auto.index-end, ap (length {A = MoveRow}) c.as_slice.ensures, ap (λ (row : TrainRow). length row.moves) c.train.ensures.row))
    c.loop-index.invariant c.in_err-write_call.ensures
