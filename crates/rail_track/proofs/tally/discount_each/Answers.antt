use Rattle.std.proofs.Common.{arith}
use Rattle.rail_track.proofs.Tallies.{count_by_own}
use Rattle.rail_track.proofs.tally.discount_each.Goals as goal

pub discount-requires : goal.discount-requires
discount-requires g c =
    let eq = g.K.PartialEq.eq in
    let key = g.T.Keyed.key_of in
    let item = c.item-item.result in
    let own = count_by_own eq g.met.K.Eq.laws key c.args.items.now c.loop-item.item-index item c.loop-item-test.true c.item-item.is in
    rw c.key.ensures record { counted = omega (arith, c.requires.counted (key item), c.loop-item.invariant (key item), own) }
