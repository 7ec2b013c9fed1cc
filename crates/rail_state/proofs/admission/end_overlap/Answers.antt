use Rattle.std.proofs.Common.{ℕ, ◌+◌, ◌-◌, ◌&&◌, true, not, List, [], ◌∷◌, cond, refl, ap, arith}
use Rattle.std.specs.Prelude.{count_by, nat_lt}
use Rattle.std.specs.List.{filter}
use Rattle.std.proofs.lemmas.Bool.{and_right}
use Rattle.rail_rules.specs.Numbers.{is_in}
use Rattle.rail_rules.specs.Plant.{claimed}
use Rattle.rail_laws_step.specs.HolderTables.{own_overlap}
use Rattle.rail_queue.specs.declared.event.Class.TheVariants as class
use Rattle.rail_state.specs.Events.{free_events, is_free_of, train_event}
use Rattle.rail_state.specs.Representation.{taken_over}
use Rattle.rail_state.proofs.Counts.{count-all, count-le}
use Rattle.rail_state.proofs.admission.end_overlap.Goals as goal

pub returns-then-times-clause-counted : goal.returns-then-times-clause-counted
returns-then-times-clause-counted c = λ q.
    let known = c.args.known.now in
    let gone : List ℕ = taken_over known.plant.now c.args.holders.now known.train (known.place - 1) in
    omega (
      arith,
      c.push_passing.ensures.counted q,
      ap (λ b. count_by (λ e. not (is_free_of (cond b [] gone) e) && q e) c.args.queue.now.events) c.if-times.true,
    )

pub returns-clause-counted : goal.returns-clause-counted
returns-clause-counted c = λ q.
    let known = c.args.known.now in
    let plant = known.plant.now in
    let t = known.train in
    let p = known.place - 1 in
    let times = c.args.times.now in
    let gone : List ℕ = taken_over plant c.args.holders.now t p in
    omega (
      arith,
      c.forget_taken.ensures.counted q,
      ap (λ b. count_by (λ e. not (is_free_of (cond b [] gone) e) && q e) c.args.queue.now.events) c.if-times.false,
      ap (λ b. count_by q (cond b (train_event times.go class.Arrive t p ∷ []) [])) (and_right (nat_lt 0 p) times.passes c.if-times.false),
      ap (λ b. count_by q (cond b (free_events (times.go + plant.tables.overlap_time) t (filter (λ x. not (is_in x (claimed plant t p))) (own_overlap plant t p))) [])) c.if-times.false,
    )

pub returns-clause-spare : goal.returns-clause-spare
returns-clause-spare c =
    let known = c.args.known.now in
    let gone : List ℕ = taken_over known.plant.now c.args.holders.now known.train (known.place - 1) in
    let es = c.args.queue.now.events in
    omega (
      arith,
      c.forget_taken.ensures.room,
      c.forget_taken.ensures.counted (λ e. true),
      count-all c.forget_taken.new.queue.events,
      count-all es,
      count-le (λ e. not (is_free_of gone e) && true) (λ e. true) es (λ e passes. refl),
    )
