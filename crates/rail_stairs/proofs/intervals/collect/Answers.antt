use Rattle.std.proofs.Common.{◌≡◌, ◌++◌, List, [], ap, ◌∙◌}
use Rattle.rail_base.specs.declared.intervals.Interval.{Interval}
use Rattle.rail_stairs.specs.NotedHistories.{noted_of}
use Rattle.rail_stairs.specs.Stairways.{train_intervals}
use Rattle.rail_stairs.specs.JourneyTrains.{of_train}
use Rattle.rail_stairs.proofs.Gathered.{gather_more}
use Rattle.rail_stairs.proofs.intervals.collect.Goals as goal

pub loop-number-preserved : goal.loop-number-preserved
loop-number-preserved c =
    let made = c.new-journey.ensures in
    let plant = c.args.plant.now in
    let stairs = c.args.stairs.now in
    let t = c.loop-number.number in
    let train : of_train train_intervals c.new-journey.result ≡ train_intervals plant t (noted_of stairs t) =
    λ k. train_intervals (made.plant k) (made.train k) (noted_of (made.stairs k) (made.train k)) in
    gather_more (λ u. train_intervals plant u (noted_of stairs u)) t [] c.loop-number.intervals.items _ c.loop-number.invariant
    (c.in_ok-push_journey.ensures ∙ ap (λ (list : List Interval). c.loop-number.intervals.items ++ list) train)
