use Rattle.std.proofs.Common.{◌-◌, sym, ap, ◌∙◌}
use Rattle.rail_rules.specs.Intervals.{interval_of}
use Rattle.rail_block.specs.declared.moves.KnownMove.{KnownMove}
use Rattle.rail_block.specs.CarriedTimes.{next_at, times_at}
use Rattle.rail_block.proofs.intervals.interval_of.Goals as goal

pub returns-then-step-steps : goal.returns-then-step-steps
returns-then-step-steps c = λ adms h.
    let of_step = c.new-known_step.ensures in
    let of_move = c.new-known.ensures in
    let plant = ap (λ (known : KnownMove). known.plant.now) of_step.of ∙ of_move.plant in
    let t = ap (λ (known : KnownMove). known.train) of_step.of ∙ of_move.train in
    let place = ap (λ (known : KnownMove). known.place) of_step.of ∙ of_move.place in
    c.interval.ensures adms (record {
      times = h.times ∙ (λ k. times_at (sym plant k) (sym t k) adms (sym place k));
      next = h.next ∙ (λ k. next_at (sym plant k) (sym t k) adms (sym place k));
    })
    ∙ (λ k. interval_of (plant k) (t k) adms (place k - 1) (of_step.step k - 1))

pub returns : goal.returns
returns c = λ adms h.
    let of_over = c.new-known_over.ensures in
    let of_move = c.new-known.ensures in
    let plant = ap (λ (known : KnownMove). known.plant.now) of_over.of ∙ of_move.plant in
    let t = ap (λ (known : KnownMove). known.train) of_over.of ∙ of_move.train in
    let place = ap (λ (known : KnownMove). known.place) of_over.of ∙ of_move.place in
    c.interval-2.ensures adms (record {
      times = h.times ∙ (λ k. times_at (sym plant k) (sym t k) adms (sym place k));
      next = h.next ∙ (λ k. next_at (sym plant k) (sym t k) adms (sym place k));
    })
    ∙ (λ k. interval_of (plant k) (t k) adms (place k - 1) (of_over.step k - 1))
