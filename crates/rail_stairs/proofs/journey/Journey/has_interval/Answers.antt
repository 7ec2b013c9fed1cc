use Rattle.std.proofs.Common.{◌≡◌, ◌+◌, ◌-◌, ◌^◌, sym, ◌∙◌, subst, arith}
use Rattle.std.specs.Option.{option_copied}
use Rattle.rail_block.specs.CarriedTimes.{AreBelow}
use Rattle.rail_rules.specs.Intervals.{has_interval}
use Rattle.rail_stairs.specs.JourneyTrains.{admissions_in}
use Rattle.rail_stairs.proofs.Carried.{next_small}
use Rattle.rail_stairs.proofs.Has.{same_times}
use Rattle.rail_stairs.proofs.journey.Journey.has_interval.Goals as goal

pub has_interval-requires-clause-times : goal.has_interval-requires-clause-times
has_interval-requires-clause-times c =
    let journey = c.args.self.now in
    let times = c.times_at.ensures journey.plant.now journey.train (admissions_in journey) (sym c.moves.ensures) (λ place le other. journey.timed place (omega (arith, le, c.moves.ensures)) other) in
    subst (AreBelow (2 ^ 51)) (sym times.times) ((journey.admissible journey.train journey.known).below (c.args.index + 1) (omega (arith, c.requires.index)))

pub has_interval-requires-clause-next : goal.has_interval-requires-clause-next
has_interval-requires-clause-next c =
    let journey = c.args.self.now in
    let times = c.times_at.ensures journey.plant.now journey.train (admissions_in journey) (sym c.moves.ensures) (λ place le other. journey.timed place (omega (arith, le, c.moves.ensures)) other) in
    λ x is. next_small journey.plant.now journey.train (admissions_in journey) (journey.admissible journey.train journey.known) (c.args.index + 1) (option_copied c.times_at.result.1) times.next x is

pub returns : goal.returns
returns c =
    let journey = c.args.self.now in
    let made = c.new-known.ensures in
    let adms = admissions_in journey in
    let times = c.times_at.ensures journey.plant.now journey.train adms (sym c.moves.ensures) (λ place le other. journey.timed place (omega (arith, le, c.moves.ensures)) other) in
    let index : c.args.index + 1 - 1 ≡ c.args.index = omega arith in
    let step : c.args.step + 1 - 1 ≡ c.args.step = omega arith in
    c.has_interval.ensures adms (same_times c.new-known.result journey.plant.now journey.train (c.args.index + 1) adms _ _ made.plant made.train made.place times)
    ∙ (λ k. has_interval (made.plant k) (made.train k) adms (made.place k - 1) (c.args.step + 1 - 1))
    ∙ (λ k. has_interval journey.plant.now journey.train adms (index k) (step k))
