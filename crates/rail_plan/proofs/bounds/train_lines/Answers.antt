use Rattle.std.proofs.Common.{◌≡◌, ◌<◌, length, arith, ap, ◌∙◌}
use Rattle.std.proofs.lemmas.List.{length-append}
use Rattle.rail_base.specs.declared.plant.MoveRow.{MoveRow}
use Rattle.rail_base.specs.declared.plant.TrainRow.{TrainRow}
use Rattle.rail_rules.specs.Plant.{no_move, move_row, moves, train}
use Rattle.rail_plan.specs.PlanFaults.{bare}
use Rattle.rail_plan.proofs.Fine.{item_read, sum_more}
use Rattle.rail_rules.proofs.CallerLemmas.{row_in_range, move_in_range}
use Rattle.rail_plan.proofs.bounds.train_lines.Goals as goal
use Rattle.rail_plan.specs.MoveLineCounts.{row_lines}

pub loop-row-preserved : goal.loop-row-preserved
loop-row-preserved c =
    let tables = c.args.tables.now in
    let i = c.loop-row.row-index in
    let items : c.as_slice-row-items.result.now ≡ (train (bare tables) c.args.number).moves = c.as_slice-row-items.ensures ∙ ap (λ (r : TrainRow). r.moves) c.train_row.ensures.row in
    let within : i < moves (bare tables) c.args.number = omega (arith, ap length items, c.loop-row-test.true) in
    let row : c.row-item.result ≡ move_row (bare tables) c.args.number i = item_read c.as_slice-row-items.result.now (train (bare tables) c.args.number).moves i i c.row-item.result no_move items (omega arith) within c.row-item.is in
    let here : MoveRow = move_row (bare tables) c.args.number i in
    let steps : length c.as_slice.result.now ≡ length here.sections = ap length c.as_slice.ensures ∙ ap (λ (r : MoveRow). length r.sections) row in
    let over : length c.as_slice-in-loop-row.result.now ≡ length here.overlap = ap length c.as_slice-in-loop-row.ensures ∙ ap (λ (r : MoveRow). length r.overlap) row in
    let facts = move_in_range (length tables.sections) here ((row_in_range (bare tables) c.requires.tables.trains c.args.number c.requires.train).each_move i within) in
    record {
      sum = sum_more (λ m. row_lines (move_row (bare tables) c.args.number m)) i c.loop-row.lines _ c.loop-row.invariant.sum (omega (arith, steps, over, length-append here.sections here.overlap));
      few = omega (arith, c.loop-row.invariant.few, steps, over, facts.few_steps, facts.few_over);
    }
