use Rattle.std.proofs.Common.{◌≡◌, ℕ, List, Ok, sym, subst, arith}
use Rattle.std.specs.Prelude.{flat_map}
use Rattle.std.proofs.lemmas.Grind.{flat_map-append}
use Rattle.std.proofs.lemmas.List.{append-nil}
use Rattle.rail_base.specs.declared.intervals.Interval.{Interval}
use Rattle.rail_rules.specs.Numbers.{gather}
use Rattle.rail_rules.specs.Plant.{claims}
use Rattle.rail_stairs.specs.Journeys.{before_move, before_step}
use Rattle.rail_stairs.specs.JourneyTrains.{at_train, of_train}
use Rattle.rail_stairs.specs.StairsTexts.{stair_line}
use Rattle.rail_stairs.specs.Stairways.{step_intervals}
use Rattle.rail_stairs.specs.Tallies.{IsTallied}
use Rattle.rail_text.specs.Writes.{WritesText}
use Rattle.rail_stairs.proofs.Written.{not_ok, one_more_written, stopped_written}
use Rattle.rail_text.proofs.CallerLemmas.{none_written}
use Rattle.rail_stairs.proofs.writing.write_move.Goals as goal

pub loop-step-init : goal.loop-step-init
loop-step-init g c = record {
  text = none_written g.O.Sink c.args.out.now;
  counted = subst (λ (seen : List Interval). IsTallied c.args.ended seen c.args.tallies.now) (sym (append-nil (at_train before_move c.args.journey.now c.args.index))) c.requires.before;
}

pub loop-step-preserved : goal.loop-step-preserved
loop-step-preserved g c =
    let journey = c.args.journey.now in
    let line = stair_line journey.plant.now in
    record {
      text = one_more_written g.O.Sink (flat_map line) (flat_map-append line) (of_train step_intervals journey c.args.index) _ _ _ c.loop-step.step _ c.loop-step.invariant.text c.in_ok-write_step.ensures.text;
      counted = c.in_ok-write_step.ensures.counted;
    }

pub returns-in_err-write_step : goal.returns-in_err-write_step
returns-in_err-write_step g c =
    let journey = c.args.journey.now in
    let line = stair_line journey.plant.now in
    let m = c.args.index in
    record {
      text = stopped_written g.O.Sink (flat_map line) (flat_map-append line) (of_train step_intervals journey m) _ _ _ (claims journey.plant.now journey.train m) c.loop-step.step _ c.from_residual.result
          (omega (arith, c.loop-step-test.true, c.claims-step-end.ensures.claims)) c.from_residual.ensures.0 c.loop-step.invariant.text c.in_err-write_step.ensures.text;
      counted = not_ok _ c.from_residual.result c.from_residual.ensures.0;
    }

pub returns : goal.returns
returns g c =
    let journey = c.args.journey.now in
    let line = stair_line journey.plant.now in
    let m = c.args.index in
    let all : c.loop-step.step ≡ claims journey.plant.now journey.train m = omega (arith, c.loop-step-test.false, c.loop-step.auto.step-end, c.claims-step-end.ensures.claims) in
    record {
      text = subst (λ (n : ℕ). WritesText g.O.Sink c.args.out.now c.loop-step.out (flat_map line (gather (of_train step_intervals journey m) n)) (Ok tt)) all c.loop-step.invariant.text;
      counted = subst (λ (n : ℕ). IsTallied c.args.ended (at_train before_step journey m n) c.loop-step.tallies) all c.loop-step.invariant.counted;
    }
