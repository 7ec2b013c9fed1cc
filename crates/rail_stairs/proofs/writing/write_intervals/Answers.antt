use Rattle.std.proofs.Common.{◌≡◌, ℕ, List, Ok, length, ◌∙◌, subst, arith}
use Rattle.std.specs.Prelude.{flat_map}
use Rattle.std.proofs.lemmas.Grind.{flat_map-append}
use Rattle.rail_base.specs.declared.intervals.Interval.{Interval}
use Rattle.rail_rules.specs.Plant.{trains}
use Rattle.rail_stairs.specs.Journeys.{before_move, before_train}
use Rattle.rail_stairs.specs.NotedHistories.{noted_of}
use Rattle.rail_stairs.specs.JourneyTrains.{admissions_in, at_train, of_train}
use Rattle.rail_stairs.specs.Stairways.{train_intervals}
use Rattle.rail_stairs.specs.StairsTexts.{stair_line}
use Rattle.rail_stairs.specs.Tallies.{IsTallied}
use Rattle.rail_text.specs.Writes.{WritesText}
use Rattle.rail_stairs.proofs.Before.{train_more}
use Rattle.rail_stairs.proofs.Written.{not_ok, one_more_written, same_text, stopped_written}
use Rattle.rail_text.proofs.CallerLemmas.{none_written}
use Rattle.rail_stairs.proofs.writing.write_intervals.Goals as goal

pub loop-number-init : goal.loop-number-init
loop-number-init g c = record {
  text = none_written g.O.Sink c.args.out.now;
  counted = c.requires.empty;
}

pub loop-number-preserved : goal.loop-number-preserved
loop-number-preserved g c =
    let plant = c.args.plant.now in
    let stairs = c.args.stairs.now in
    let line = stair_line plant in
    let journey = c.new-journey.result in
    let made = c.new-journey.ensures in
    let t = c.loop-number.number in
    let text : flat_map (stair_line journey.plant.now) (of_train train_intervals journey) ≡ flat_map line (train_intervals plant t (noted_of stairs t)) =
    λ k. flat_map (stair_line (made.plant k)) (train_intervals (made.plant k) (made.train k) (noted_of (made.stairs k) (made.train k))) in
    let seen : at_train before_move journey (length (admissions_in journey)) ≡ before_move plant stairs t (length (noted_of stairs t)) =
    λ k. before_move (made.plant k) (made.stairs k) (made.train k) (length (noted_of (made.stairs k) (made.train k))) in
    record {
      text = one_more_written g.O.Sink (flat_map line) (flat_map-append line) (λ u. train_intervals plant u (noted_of stairs u)) _ _ _ t _ c.loop-number.invariant.text
          (same_text g.O.Sink c.loop-number.out c.write_journey.new.out text c.in_ok-write_journey.ensures.text);
      counted = subst (λ (list : List Interval). IsTallied c.args.ended list c.write_journey.new.tallies)
          (seen ∙ train_more plant stairs t) c.in_ok-write_journey.ensures.counted;
    }

pub returns-in_err-write_journey : goal.returns-in_err-write_journey
returns-in_err-write_journey g c =
    let plant = c.args.plant.now in
    let stairs = c.args.stairs.now in
    let line = stair_line plant in
    let journey = c.new-journey.result in
    let made = c.new-journey.ensures in
    let t = c.loop-number.number in
    let text : flat_map (stair_line journey.plant.now) (of_train train_intervals journey) ≡ flat_map line (train_intervals plant t (noted_of stairs t)) =
    λ k. flat_map (stair_line (made.plant k)) (train_intervals (made.plant k) (made.train k) (noted_of (made.stairs k) (made.train k))) in
    record {
      text = stopped_written g.O.Sink (flat_map line) (flat_map-append line) (λ u. train_intervals plant u (noted_of stairs u)) _ _ _ (trains plant) t _ c.from_residual.result
          (omega (arith, c.loop-number-test.true, c.trains-number-end.ensures.count, c.moves.ensures.trains)) c.from_residual.ensures.0 c.loop-number.invariant.text
          (same_text g.O.Sink c.loop-number.out c.write_journey.new.out text c.in_err-write_journey.ensures.text);
      counted = not_ok _ c.from_residual.result c.from_residual.ensures.0;
    }

pub returns : goal.returns
returns g c =
    let plant = c.args.plant.now in
    let stairs = c.args.stairs.now in
    let all : c.loop-number.number ≡ trains plant = omega (arith, c.loop-number-test.false, c.loop-number.auto.number-end, c.trains-number-end.ensures.count, c.moves.ensures.trains) in
    record {
      text = subst (λ (n : ℕ). WritesText g.O.Sink c.args.out.now c.loop-number.out (flat_map (stair_line plant) (before_train plant stairs n)) (Ok tt)) all c.loop-number.invariant.text;
      counted = subst (λ (n : ℕ). IsTallied c.args.ended (before_train plant stairs n) c.loop-number.tallies) all c.loop-number.invariant.counted;
    }
