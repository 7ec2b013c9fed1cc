use Rattle.std.proofs.Common.{List, Ok, Err, subst, arith}
use Rattle.rail_rules.specs.Numbers.{gather}
use Rattle.rail_rules.specs.Plant.{call_after, moves, trains}
use Rattle.rail_delay.specs.declared.visits.Visit.{Visit}
use Rattle.rail_delay.specs.Reports.{call_line, call_lines}
use Rattle.rail_text.specs.Writes.{WritesText}
use Rattle.rail_delay.proofs.Writes.{failed_at, next_written}
use Rattle.rail_delay.proofs.report.write_calls.Goals as goal

pub returns-in_err-write_train_calls : goal.returns-in_err-write_train_calls
returns-in_err-write_train_calls g c =
    let plant = c.args.plant.now in
    let t = c.loop-number.number in
    let here = subst (λ (row : List Visit). WritesText g.O.Sink c.loop-number.out c.write_train_calls.new.out (gather (λ m. call_line plant t row m (call_after plant t m)) (moves plant t))
    (Err c.in_err-write_train_calls.field-0.0)) c.visits.ensures c.in_err-write_train_calls.ensures in
    failed_at g.O.Sink _ _ _ (call_lines plant c.args.delays.now.visits) (trains plant) t _ c.from_residual.result c.from_residual.ensures.0
    (omega (arith, c.loop-number-test.true, c.loop-number.auto.number-end, c.trains-trains.ensures.count, c.moves.ensures.trains))
    c.loop-number.invariant here

pub loop-number-preserved : goal.loop-number-preserved
loop-number-preserved g c =
    let plant = c.args.plant.now in
    let t = c.loop-number.number in
    let here = subst (λ (row : List Visit). WritesText g.O.Sink c.loop-number.out c.write_train_calls.new.out (gather (λ m. call_line plant t row m (call_after plant t m)) (moves plant t))
    (Ok tt)) c.visits.ensures c.in_ok-write_train_calls.ensures in
    next_written g.O.Sink _ _ _ (call_lines plant c.args.delays.now.visits) t c.loop-number.invariant here
