use Rattle.std.proofs.Common.{◌≡◌, ℕ, ◌+◌, ◌≤◌, ◌^◌, get_or, replicate, sym, ap, ◌∙◌, subst, arith}
use Rattle.std.proofs.lemmas.List.{length-set, length-replicate, get_or-replicate}
use Rattle.rail_block.specs.CarriedTimes.{AreBelow, times_at}
use Rattle.rail_stairs.specs.declared.journey.TheConstants.{PLACES}
use Rattle.rail_stairs.proofs.Carried.{admission_ready, admission_small, times_more, times_next}
use Rattle.rail_stairs.proofs.journey.times_by.Goals as goal

pub loop-index-init : goal.loop-index-init
loop-index-init c = record {
  long = length-replicate PLACES c.entry_times-times.result;
  times = λ place le other.
      ap (λ k. get_or (replicate PLACES c.entry_times-times.result) k other) (at_first place le)
      ∙ get_or-replicate PLACES 0 c.entry_times-times.result other (omega arith)
      ∙ c.entry_times-times.ensures.times c.args.admissions.now
      ∙ ap (times_at c.args.plant.now c.args.train c.args.admissions.now) (sym (at_first place le));
}
  where
    at_first : (place : ℕ) → place ≤ 0 → place ≡ 0
    at_first place le = omega (arith, le)

pub times_of-requires-clause-admitted : goal.times_of-requires-clause-admitted
times_of-requires-clause-admitted c =
    admission_small c.args.plant.now c.args.train c.args.admissions.now c.requires.admissible c.loop-index.index c.index-admissions-index.result c.loop-index-test.true c.index-admissions-index.is

pub times_of-requires-clause-times : goal.times_of-requires-clause-times
times_of-requires-clause-times c =
    subst (AreBelow (2 ^ 51)) (sym (c.loop-index.invariant.times c.loop-index.index (omega arith) c.index-times-index.result))
    (c.requires.admissible.below c.loop-index.index (omega (arith, c.loop-index-test.true)))

pub times_of-requires-clause-ready : goal.times_of-requires-clause-ready
times_of-requires-clause-ready c =
    admission_ready c.args.plant.now c.args.train c.args.admissions.now c.requires.admissible c.loop-index.index c.index-admissions-index.result _ c.loop-index-test.true c.index-admissions-index.is
    (c.loop-index.invariant.times c.loop-index.index (omega arith) c.index-times-index.result)

pub loop-index-preserved : goal.loop-index-preserved
loop-index-preserved c =
    let i = c.loop-index.index in
    let plant = c.args.plant.now in
    let t = c.args.train in
    let adms = c.args.admissions.now in
    let made = times_next plant t adms i (i + 1) c.index-admissions-index.result _ c.times_of.result (omega arith) c.loop-index-test.true c.index-admissions-index.is
    (c.loop-index.invariant.times i (omega arith) c.index-times-index.result) c.later_admissions_change_no_earlier_times.ensures c.times_of.ensures.times in
    record {
      long = length-set c.loop-index.times (i + 1) c.times_of.result ∙ c.loop-index.invariant.long;
      times = times_more plant t adms i c.loop-index.times c.times_of.result (omega (arith, c.loop-index.invariant.long, c.loop-index-test.true, c.requires.few)) c.loop-index.invariant.times made;
    }

pub returns : goal.returns
returns c = λ place le other. c.loop-index.invariant.times place (omega (arith, le, c.loop-index-test.false)) other
