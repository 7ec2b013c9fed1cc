use Rattle.std.proofs.Common.{◌∷◌, arith}
use Rattle.rail_io.proofs.CallerLemmas.{AddsPrefix-more}
use Rattle.rail_history.specs.Lines.{item_text}
use Rattle.rail_history.proofs.trains.put_item.Goals as goal

pub returns-in_err-make_room-clause-failed_adds_prefix :
    goal.returns-in_err-make_room-clause-failed_adds_prefix
returns-in_err-make_room-clause-failed_adds_prefix g c =
    let part = AddsPrefix-more (32 ∷ item_text c.args.names.now (record { train = c.args.train; count = c.args.count })) c.in_err-make_room.ensures.failed_adds_prefix in
    grind (arith, part)
