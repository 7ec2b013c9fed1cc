use Rattle.std.proofs.Common.{ap, length, arith}
use Rattle.rail_stairs.proofs.OpenIntervals.{end_all, end_next}
use Rattle.rail_stairs.proofs.intervals.ended_by.Goals as goal

pub loop-interval-preserved : goal.loop-interval-preserved
loop-interval-preserved c =
    end_next c.args.ended c.args.intervals.items c.loop-interval.interval-items c.loop-interval.interval-index c.unwrap_or.result _ c.loop-interval.invariant
    (omega (arith, c.loop-interval-test.true, ap length c.deref_mut-interval-items.ensures.value)) c.unwrap_or.ensures

pub returns : goal.returns
returns c =
    let lent = ap length c.deref_mut-interval-items.ensures.value in
    end_all c.args.ended c.args.intervals.items c.loop-interval.interval-items c.loop-interval.interval-index c.args.intervals.len c.loop-interval.invariant
    (omega (arith, c.loop-interval-test.false, lent)) (omega (arith, lent, c.loop-interval.auto.interval-items, c.deref_mut-interval-items.ensures.len))
