use Rattle.std.proofs.Common.{◌≡◌, ◌+◌, ap, arith}
use Rattle.std.specs.Prelude.{count_by}
use Rattle.rail_laws_step.specs.HolderTables.{own_overlap}
use Rattle.rail_state.specs.Events.{free_events}
use Rattle.rail_state.proofs.FreeEvents.{filter_nothing}
use Rattle.rail_state.proofs.pushes.push_overlap.Goals as goal

pub returns-clause-counted : goal.returns-clause-counted
returns-clause-counted c = λ q.
    let plant = c.args.plant.now in
    let own = c.overlap_behind.result.now in
    let timer = c.after-timer.result in
    let spell : timer ≡ c.args.arrival + plant.tables.overlap_time = omega (arith, c.after-timer.ensures, c.from.ensures, c.overlap_time.ensures) in
    omega (
      arith,
      c.push_unclaimed.ensures.counted q,
      ap (λ xs. count_by q (free_events timer c.args.train xs)) (filter_nothing own),
      ap (λ xs. count_by q (free_events timer c.args.train xs)) c.overlap_behind.ensures.sections,
      ap (λ a. count_by q (free_events a c.args.train (own_overlap plant c.args.train c.args.place))) spell,
    )
