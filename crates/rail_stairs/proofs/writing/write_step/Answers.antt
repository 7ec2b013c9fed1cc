use Rattle.std.proofs.Common.{◌≡◌, [], ◌∷◌, ◌++◌, List, sym, ap, ◌∙◌, refl, subst, arith}
use Rattle.std.specs.Prelude.{flat_map}
use Rattle.std.proofs.lemmas.List.{append-nil}
use Rattle.rail_base.specs.declared.intervals.Interval.{Interval}
use Rattle.rail_rules.specs.Intervals.{has_interval, interval_of}
use Rattle.rail_stairs.specs.Journeys.{before_step}
use Rattle.rail_stairs.specs.JourneyTrains.{at_train, of_train}
use Rattle.rail_stairs.specs.StairsTexts.{stair_line}
use Rattle.rail_stairs.specs.Stairways.{step_intervals}
use Rattle.rail_stairs.specs.Tallies.{IsTallied}
use Rattle.rail_stairs.proofs.Before.{step_more}
use Rattle.rail_stairs.proofs.Counts.{few_before_step}
use Rattle.rail_stairs.proofs.There.{there_none, there_some}
use Rattle.rail_stairs.proofs.Written.{is_ok, one_written, same_text}
use Rattle.rail_text.proofs.CallerLemmas.{none_written}
use Rattle.rail_stairs.proofs.writing.write_step.Goals as goal

pub add-requires-clause-visits : goal.add-requires-clause-visits
add-requires-clause-visits g c =
    let journey = c.args.journey.now in
    let few = few_before_step journey.plant.now journey.accepted journey.stairs.now journey.admissible journey.train c.args.index c.args.step journey.known c.requires.index (omega (arith, c.requires.step)) in
    omega (arith, few, c.requires.before.few c.in-Some.interval.section (omega (arith, c.in-Some.ensures.section, c.interval.ensures.few_sections)))

pub add-requires-clause-occupied : goal.add-requires-clause-occupied
add-requires-clause-occupied g c =
    let journey = c.args.journey.now in
    let few = few_before_step journey.plant.now journey.accepted journey.stairs.now journey.admissible journey.train c.args.index c.args.step journey.known c.requires.index (omega (arith, c.requires.step)) in
    omega (arith, few, c.requires.before.short c.in-Some.interval.section (omega (arith, c.in-Some.ensures.section, c.interval.ensures.few_sections)))

pub returns-in_default : goal.returns-in_default
returns-in_default g c =
    let journey = c.args.journey.now in
    let m = c.args.index in
    let j = c.args.step in
    let none : [] ≡ of_train step_intervals journey m j = there_none (of_train has_interval journey m j) (of_train interval_of journey m j) (sym c.in_default.is ∙ c.interval.ensures.interval) in
    let seen : List Interval = at_train before_step journey m j in
    record {
      text = same_text g.O.Sink c.args.out.now c.args.out.now (ap (flat_map (stair_line journey.plant.now)) none) (none_written g.O.Sink c.args.out.now);
      counted = subst (λ (list : List Interval). IsTallied c.args.ended list c.args.tallies.now)
          (sym (append-nil seen) ∙ ap (λ (more : List Interval). seen ++ more) none ∙ step_more journey.plant.now journey.stairs.now journey.train m j) c.requires.before;
    }

pub returns : goal.returns
returns g c =
    let journey = c.args.journey.now in
    let m = c.args.index in
    let j = c.args.step in
    let interval : Interval = c.in-Some.interval in
    let some : interval ∷ [] ≡ of_train step_intervals journey m j = there_some (of_train has_interval journey m j) (of_train interval_of journey m j) interval (sym c.in-Some.is ∙ c.interval.ensures.interval) in
    let seen : List Interval = at_train before_step journey m j in
    let line = stair_line journey.plant.now in
    record {
      text = same_text g.O.Sink c.args.out.now c.write_interval.new.out (ap (flat_map line) some)
          (one_written g.O.Sink line c.args.out.now c.write_interval.new.out interval interval c.write_interval.result refl c.write_interval.ensures);
      counted = is_ok _ c.write_interval.result (subst (λ (list : List Interval). IsTallied c.args.ended list c.add.new.self)
          (ap (λ (more : List Interval). seen ++ more) some ∙ step_more journey.plant.now journey.stairs.now journey.train m j) (c.add.ensures seen c.requires.before));
    }
