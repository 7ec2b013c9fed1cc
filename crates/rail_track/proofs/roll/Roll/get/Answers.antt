use Rattle.std.proofs.Common.{sym}
use Rattle.rail_track.proofs.Rolls.{found_item, missing_item}
use Rattle.rail_track.proofs.roll.Roll.get.Goals as goal

pub returns-in_err-index : goal.returns-in_err-index
returns-in_err-index g c =
    let test = g.K.PartialEq.eq c.args.key.now in
    rw (c.from_residual.ensures, ← c.self.view_is) (missing_item test g.T.Keyed.key_of c.self.inside.keys.keys c.self.inside.items.items c.self.invariant (sym c.in_err-index.ensures.index))

pub returns : goal.returns
returns g c =
    let test = g.K.PartialEq.eq c.args.key.now in
    rw (← c.self.view_is) (found_item test g.T.Keyed.key_of c.self.inside.keys.keys c.self.inside.items.items c.self.invariant c.in_ok-index.index c.index.result.now (sym c.in_ok-index.ensures.index) c.index.ensures)
