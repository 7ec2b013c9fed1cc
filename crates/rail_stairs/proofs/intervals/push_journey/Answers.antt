use Rattle.rail_stairs.specs.JourneyTrains.{of_train}
use Rattle.rail_stairs.specs.Stairways.{move_intervals}
use Rattle.rail_stairs.proofs.Gathered.{gather_more}
use Rattle.rail_stairs.proofs.intervals.push_journey.Goals as goal

pub loop-index-preserved : goal.loop-index-preserved
loop-index-preserved c =
    gather_more (of_train move_intervals c.args.journey.now) c.loop-index.index c.args.intervals.now.items c.loop-index.intervals.items _ c.loop-index.invariant c.in_ok-push_move.ensures
