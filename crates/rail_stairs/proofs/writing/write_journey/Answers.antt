use Rattle.std.proofs.Common.{◌≡◌, ℕ, List, Ok, length, sym, subst, arith}
use Rattle.std.specs.Prelude.{flat_map}
use Rattle.std.proofs.lemmas.Grind.{flat_map-append}
use Rattle.std.proofs.lemmas.List.{append-nil}
use Rattle.rail_base.specs.declared.intervals.Interval.{Interval}
use Rattle.rail_rules.specs.Numbers.{gather}
use Rattle.rail_stairs.specs.Journeys.{before_move, before_train}
use Rattle.rail_stairs.specs.JourneyTrains.{admissions_in, at_train, of_train}
use Rattle.rail_stairs.specs.Stairways.{move_intervals}
use Rattle.rail_stairs.specs.StairsTexts.{stair_line}
use Rattle.rail_stairs.specs.Tallies.{IsTallied}
use Rattle.rail_text.specs.Writes.{WritesText}
use Rattle.rail_stairs.proofs.Before.{move_more}
use Rattle.rail_stairs.proofs.Written.{not_ok, one_more_written, stopped_written}
use Rattle.rail_text.proofs.CallerLemmas.{none_written}
use Rattle.rail_stairs.proofs.writing.write_journey.Goals as goal

pub loop-index-init : goal.loop-index-init
loop-index-init g c = record {
  text = none_written g.O.Sink c.args.out.now;
  counted = subst (λ (seen : List Interval). IsTallied c.args.ended seen c.args.tallies.now) (sym (append-nil (at_train before_train c.args.journey.now))) c.requires.before;
}

pub loop-index-preserved : goal.loop-index-preserved
loop-index-preserved g c =
    let journey = c.args.journey.now in
    let line = stair_line journey.plant.now in
    record {
      text = one_more_written g.O.Sink (flat_map line) (flat_map-append line) (of_train move_intervals journey) _ _ _ c.loop-index.index _ c.loop-index.invariant.text c.in_ok-write_move.ensures.text;
      counted = subst (λ (list : List Interval). IsTallied c.args.ended list c.write_move.new.tallies)
          (move_more journey.plant.now journey.stairs.now journey.train c.loop-index.index) c.in_ok-write_move.ensures.counted;
    }

pub returns-in_err-write_move : goal.returns-in_err-write_move
returns-in_err-write_move g c =
    let journey = c.args.journey.now in
    let line = stair_line journey.plant.now in
    record {
      text = stopped_written g.O.Sink (flat_map line) (flat_map-append line) (of_train move_intervals journey) _ _ _ (length (admissions_in journey)) c.loop-index.index _ c.from_residual.result
          (omega (arith, c.loop-index-test.true, c.moves-index-end.ensures)) c.from_residual.ensures.0 c.loop-index.invariant.text c.in_err-write_move.ensures.text;
      counted = not_ok _ c.from_residual.result c.from_residual.ensures.0;
    }

pub returns : goal.returns
returns g c =
    let journey = c.args.journey.now in
    let line = stair_line journey.plant.now in
    let all : c.loop-index.index ≡ length (admissions_in journey) = omega (arith, c.loop-index-test.false, c.loop-index.auto.index-end, c.moves-index-end.ensures) in
    record {
      text = subst (λ (n : ℕ). WritesText g.O.Sink c.args.out.now c.loop-index.out (flat_map line (gather (of_train move_intervals journey) n)) (Ok tt)) all c.loop-index.invariant.text;
      counted = subst (λ (n : ℕ). IsTallied c.args.ended (at_train before_move journey n) c.loop-index.tallies) all c.loop-index.invariant.counted;
    }
