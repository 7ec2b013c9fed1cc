use Rattle.std.proofs.Common.{◌≡◌, ◌<◌, ◌-◌, Bool, length, ap, ◌∙◌, arith}
use Rattle.rail_base.specs.declared.plant.MoveRow.{MoveRow}
use Rattle.rail_base.specs.declared.plant.TrainRow.{TrainRow}
use Rattle.rail_rules.specs.Accepted.{is_move_in_range}
use Rattle.rail_rules.specs.Plant.{no_move, move_row, moves, train}
use Rattle.rail_plan.specs.PlanFaults.{bare}
use Rattle.rail_plan.proofs.Fine.{item_read}
use Rattle.rail_rules.proofs.CallerLemmas.{row_in_range}
use Rattle.rail_plan.proofs.rows.move_row.Goals as goal

pub returns-clause-fine : goal.returns-clause-fine
returns-clause-fine c =
    let tables = c.args.tables.now in
    let moves_are : c.as_slice.result.now ≡ (train (bare tables) c.args.number).moves = c.as_slice.ensures ∙ ap (λ (r : TrainRow). r.moves) c.train_row.ensures.row in
    let index : c.from.result - 1 ≡ c.args.place - 1 = ap (λ n. n - 1) c.from.ensures in
    let within : c.args.place - 1 < moves (bare tables) c.args.number = omega (arith, c.requires.first, c.requires.last) in
    let row : c.index-as_slice-from.result ≡ move_row (bare tables) c.args.number (c.args.place - 1) =
    item_read c.as_slice.result.now
    (train (bare tables) c.args.number).moves
    (c.from.result - 1)
    (c.args.place - 1)
    c.index-as_slice-from.result no_move moves_are index within c.index-as_slice-from.is in
    let test : MoveRow → Bool = is_move_in_range (length tables.sections) in
    ap test row ∙ (row_in_range (bare tables) c.requires.tables.trains c.args.number c.requires.train).each_move (c.args.place - 1) within
