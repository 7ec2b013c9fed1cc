use Rattle.std.proofs.Common.{◌≡◌, ◌+◌, ◌-◌, ◌^◌, sym, ap, ◌∙◌, subst, arith}
use Rattle.std.specs.Option.{option_copied}
use Rattle.rail_base.specs.declared.intervals.Interval.{Interval}
use Rattle.rail_block.specs.CarriedTimes.{AreBelow}
use Rattle.rail_rules.specs.Intervals.{interval_of}
use Rattle.rail_stairs.specs.JourneyTrains.{admissions_in}
use Rattle.rail_stairs.proofs.Carried.{next_small}
use Rattle.rail_stairs.proofs.Counts.{section_known}
use Rattle.rail_stairs.proofs.journey.Journey.interval_there.Goals as goal

pub interval_of-requires-clause-times : goal.interval_of-requires-clause-times
interval_of-requires-clause-times c =
    let journey = c.args.self.now in
    let times = c.times_at.ensures journey.plant.now journey.train (admissions_in journey) (sym c.moves.ensures) (λ place le other. journey.timed place (omega (arith, le, c.moves.ensures)) other) in
    subst (AreBelow (2 ^ 51)) (sym times.times) ((journey.admissible journey.train journey.known).below (c.args.index + 1) (omega (arith, c.requires.index)))

pub interval_of-requires-clause-next : goal.interval_of-requires-clause-next
interval_of-requires-clause-next c =
    let journey = c.args.self.now in
    let times = c.times_at.ensures journey.plant.now journey.train (admissions_in journey) (sym c.moves.ensures) (λ place le other. journey.timed place (omega (arith, le, c.moves.ensures)) other) in
    λ x is. next_small journey.plant.now journey.train (admissions_in journey) (journey.admissible journey.train journey.known) (c.args.index + 1) (option_copied c.times_at.result.1) times.next x is

pub returns-clause-interval : goal.returns-clause-interval
returns-clause-interval c =
    let journey = c.args.self.now in
    let times = c.times_at.ensures journey.plant.now journey.train (admissions_in journey) (sym c.moves.ensures) (λ place le other. journey.timed place (omega (arith, le, c.moves.ensures)) other) in
    let index : c.args.index + 1 - 1 ≡ c.args.index = omega arith in
    let step : c.args.step + 1 - 1 ≡ c.args.step = omega arith in
    c.interval_of.ensures (admissions_in journey) times
    ∙ (λ k. interval_of journey.plant.now journey.train (admissions_in journey) (index k) (step k))

pub returns-clause-section : goal.returns-clause-section
returns-clause-section c =
    let journey = c.args.self.now in
    omega (
      arith,
      ap (λ (i : Interval). i.section) (returns-clause-interval c),
      section_known journey.plant.now journey.accepted journey.train c.args.index c.args.step journey.known (omega (arith, c.requires.index, (journey.admissible journey.train journey.known).few)) c.requires.step,
    )
