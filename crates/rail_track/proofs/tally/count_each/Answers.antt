use Rattle.std.proofs.Common.{arith}
use Rattle.rail_track.proofs.Tallies.{count_by_own}
use Rattle.rail_track.proofs.tally.count_each.Goals as goal

pub count-requires-clause-fits : goal.count-requires-clause-fits
count-requires-clause-fits g c =
    let eq = g.K.PartialEq.eq in
    let key = g.T.Keyed.key_of in
    let item = c.item-item.result in
    let own = count_by_own eq g.met.K.Eq.laws key c.args.items.now c.loop-item.item-index item c.loop-item-test.true c.item-item.is in
    rw c.key.ensures (omega (arith, c.requires.fits (key item), c.loop-item.invariant.counted (key item), own))
