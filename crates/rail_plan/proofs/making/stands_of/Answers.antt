use Rattle.std.proofs.Common.{◌≡◌, ◌<◌, get_or, length, ap, ◌∙◌, Bool}
use Rattle.std.proofs.lemmas.List.{get_or_default}
use Rattle.rail_base.specs.declared.plant.MoveRow.{MoveRow}
use Rattle.rail_rules.specs.Accepted.{is_move_in_range}
use Rattle.rail_rules.specs.Plant.{no_move}
use Rattle.rail_plan.proofs.making.stands_of.Goals as goal

pub standing-requires-clause-fine : goal.standing-requires-clause-fine
standing-requires-clause-fine c =
    let i = c.loop-row.row-index in
    let within : i < length c.args.moves.now = c.loop-row-test.true in
    let row : c.row-item.result ≡ get_or c.args.moves.now i no_move = c.row-item.is ∙ get_or_default c.args.moves.now i c.row-item.result no_move within in
    let test : MoveRow → Bool = is_move_in_range (length c.args.tables.now.sections) in
    ap test row ∙ c.requires.fine i within
