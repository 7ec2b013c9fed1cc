use Rattle.rail_stairs.specs.JourneyTrains.{of_train}
use Rattle.rail_stairs.specs.Stairways.{step_intervals}
use Rattle.rail_stairs.proofs.Gathered.{gather_more}
use Rattle.rail_stairs.proofs.intervals.push_move.Goals as goal

pub loop-step-preserved : goal.loop-step-preserved
loop-step-preserved c =
    gather_more (of_train step_intervals c.args.journey.now c.args.index) c.loop-step.step c.args.intervals.now.items c.loop-step.intervals.items _ c.loop-step.invariant c.in_ok-push_step.ensures
