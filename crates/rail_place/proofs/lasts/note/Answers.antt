use Rattle.std.proofs.Common.{◌<◌, length, arith}
use Rattle.rail_place.proofs.Giving.{range_at}
use Rattle.rail_place.proofs.lasts.note.Goals as goal

pub index_mut-requires : goal.index_mut-requires
index_mut-requires c =
    let range : c.section-item.result < length c.args.noted.now.items = range_at c.args.sections.now c.loop-section.section-index c.section-item.result (length c.args.noted.now.items) c.requires c.loop-section-test.true c.section-item.is in
    omega (arith, range, c.from.ensures, c.section.view_is, c.loop-section.invariant.same_length, c.loop-section.noted.ok)
