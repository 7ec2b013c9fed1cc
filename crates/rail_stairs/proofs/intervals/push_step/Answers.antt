use Rattle.std.proofs.Common.{List, ◌++◌, sym, ap, ◌∙◌}
use Rattle.std.proofs.lemmas.List.{append-nil}
use Rattle.rail_base.specs.declared.intervals.Interval.{Interval}
use Rattle.rail_rules.specs.Intervals.{has_interval, interval_of}
use Rattle.rail_stairs.specs.JourneyTrains.{of_train}
use Rattle.rail_stairs.proofs.There.{there_none, there_some}
use Rattle.rail_stairs.proofs.intervals.push_step.Goals as goal

pub returns-in_default : goal.returns-in_default
returns-in_default c =
    let journey = c.args.journey.now in
    let m = c.args.index in
    let j = c.args.step in
    let old : List Interval = c.args.intervals.now.items in
    sym (append-nil old)
    ∙ ap (λ (more : List Interval). old ++ more) (there_none (of_train has_interval journey m j) (of_train interval_of journey m j) (sym c.in_default.is ∙ c.interval.ensures.interval))

pub returns : goal.returns
returns c =
    let journey = c.args.journey.now in
    let m = c.args.index in
    let j = c.args.step in
    let old : List Interval = c.args.intervals.now.items in
    c.in_ok-push.ensures.items
    ∙ ap (λ (more : List Interval). old ++ more) (there_some (of_train has_interval journey m j) (of_train interval_of journey m j) c.in-Some.interval (sym c.in-Some.is ∙ c.interval.ensures.interval))
