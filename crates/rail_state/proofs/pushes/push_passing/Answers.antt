use Rattle.std.proofs.Common.{◌≡◌, ◌+◌, ◌-◌, ◌&&◌, not, [], ◌∷◌, cond, true, ap, arith}
use Rattle.std.specs.Prelude.{count_by, nat_lt}
use Rattle.std.specs.List.{filter}
use Rattle.std.proofs.lemmas.Bool.{and_from, lt-ltb}
use Rattle.rail_rules.specs.Numbers.{is_in}
use Rattle.rail_rules.specs.Plant.{claimed}
use Rattle.rail_laws_step.specs.HolderTables.{own_overlap}
use Rattle.rail_queue.specs.declared.event.Event.{Event}
use Rattle.rail_queue.specs.declared.event.Class.TheVariants as class
use Rattle.rail_state.specs.Events.{free_events, train_event}
use Rattle.rail_state.proofs.pushes.push_passing.Goals as goal

pub returns-clause-counted : goal.returns-clause-counted
returns-clause-counted c = λ q.
    let known = c.args.known.now in
    let plant = known.plant.now in
    let t = known.train in
    let p = known.place - 1 in
    let times = c.args.times.now in
    let timer = c.after-timer.result in
    let some : (nat_lt 0 p && times.passes) ≡ true = and_from (nat_lt 0 p) times.passes (lt-ltb 0 p (omega (arith, c.requires.behind))) c.requires.passes in
    let spell : timer ≡ times.go + plant.tables.overlap_time = omega (arith, c.after-timer.ensures, c.from.ensures, c.overlap_time.ensures) in
    let freed : count_by q (free_events timer t (filter (λ x. not (is_in x c.claimed_sections.result.now)) c.overlap_behind-own.result.now))
    ≡ count_by q (free_events (times.go + plant.tables.overlap_time) t (filter (λ x. not (is_in x (claimed plant t p))) (own_overlap plant t p))) =
    λ k. count_by q (free_events (spell k) t (filter (λ x. not (is_in x (c.claimed_sections.ensures.sections k))) (c.overlap_behind-own.ensures.sections k))) in
    omega (
      arith,
      c.push_unclaimed.ensures.counted q,
      c.push.ensures.counted q,
      ap (λ (e : Event). count_by q (e ∷ [])) c.event_of_train.ensures,
      freed,
      ap (λ b. count_by q (cond b (train_event times.go class.Arrive t p ∷ []) [])) some,
      ap (λ b. count_by q (cond b (free_events (times.go + plant.tables.overlap_time) t (filter (λ x. not (is_in x (claimed plant t p))) (own_overlap plant t p))) [])) c.requires.passes,
    )
