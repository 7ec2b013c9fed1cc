use Rattle.std.proofs.Common.{◌≡◌, suc, ◌+◌, ◌-◌, ◌<◌, [], ◌∷◌, count_by, sym, ap, ◌∙◌, arith}
use Rattle.rail_rules.specs.Plant.{moves}
use Rattle.rail_block.specs.declared.times.MoveTimes.{MoveTimes}
use Rattle.rail_laws_step.specs.HolderTables.{own_overlap}
use Rattle.rail_queue.specs.declared.event.Event.{Event}
use Rattle.rail_queue.specs.declared.event.Class.TheVariants.{Arrive}
use Rattle.rail_state.specs.Events.{event_of, free_events, train_event}
use Rattle.rail_state.proofs.Counts.{count-append}
use Rattle.rail_state.proofs.Leaving.{before, ends_earlier, ends_last, made_at, next_ready}
use Rattle.rail_state.proofs.pushes.push_end.Goals as goal

pub returns-then-known-last_place-clause-counted : goal.returns-then-known-last_place-clause-counted
returns-then-known-last_place-clause-counted c = λ adms long is q.
    let plant = c.args.known.now.plant.now in
    let t = c.args.known.now.train in
    let place = c.args.known.now.place in
    let m = c.args.known.now.place - 1 in
    let at : place ≡ suc m = before place c.args.known.now.first in
    let whole : place ≡ moves plant t = c.if-known-last_place.true ∙ c.last_place.ensures in
    let ran = ap (λ (own : MoveTimes). own.free_run) (made_at plant t adms place c.args.times.now c.args.known.now.first is) in
    let gone = c.out_time.ensures.time whole adms is in
    let lines = ends_last (λ e. q (event_of e)) plant c.args.known.now.accepted t adms m place c.args.times.now.free_run c.out_time.result c.args.known.now.known at (sym at ∙ whole) ran gone in
    omega (arith, c.push.ensures.counted q, c.push-then-known-last_place.ensures.counted q, ap (λ (e : Event). count_by q (e ∷ [])) c.event_of_train.ensures, ap (λ (e : Event). count_by q (e ∷ [])) c.event_of_train-then-known-last_place.ensures, lines)

pub returns-then-is_forced-clause-counted : goal.returns-then-is_forced-clause-counted
returns-then-is_forced-clause-counted c = λ adms long is q.
    let plant = c.args.known.now.plant.now in
    let t = c.args.known.now.train in
    let place = c.args.known.now.place in
    let m = c.args.known.now.place - 1 in
    let at : place ≡ suc m = before place c.args.known.now.first in
    let more : suc m < moves plant t = omega (arith, c.args.known.now.first, c.args.known.now.last, c.if-known-last_place.false, c.last_place.ensures) in
    let own = made_at plant t adms place c.args.times.now c.args.known.now.first is in
    let stopped = c.stop_at-stop.ensures.time adms is in
    let readied = ap (λ (times : MoveTimes). times.next_ready) own ∙ next_ready plant t adms m more in
    let lines = ends_earlier q plant c.args.known.now.accepted t adms m place c.stop_at-stop.result c.args.times.now.next_ready at more (omega (arith, long, at)) stopped readied in
    omega (arith, c.push-2.ensures.counted q, c.push-then-is_forced.ensures.counted q, c.push_overlap.ensures.counted q, ap (λ (e : Event). count_by q (e ∷ [])) c.event_of_train-2.ensures, ap (λ (e : Event). count_by q (e ∷ [])) c.event_of_train-then-is_forced.ensures, lines)

pub returns-clause-counted : goal.returns-clause-counted
returns-clause-counted c = λ adms long is q.
    let plant = c.args.known.now.plant.now in
    let t = c.args.known.now.train in
    let place = c.args.known.now.place in
    let m = c.args.known.now.place - 1 in
    let at : place ≡ suc m = before place c.args.known.now.first in
    let more : suc m < moves plant t = omega (arith, c.args.known.now.first, c.args.known.now.last, c.if-known-last_place.false, c.last_place.ensures) in
    let own = made_at plant t adms place c.args.times.now c.args.known.now.first is in
    let stop = c.stop_at-stop.result in
    let stopped = c.stop_at-stop.ensures.time adms is in
    let readied = ap (λ (times : MoveTimes). times.next_ready) own ∙ next_ready plant t adms m more in
    let lines = ends_earlier q plant c.args.known.now.accepted t adms m place stop c.args.times.now.next_ready at more (omega (arith, long, at)) stopped readied in
    omega (
      arith,
      c.push-2.ensures.counted q,
      ap (λ (e : Event). count_by q (e ∷ [])) c.event_of_train-2.ensures,
      count-append q (train_event stop Arrive t place ∷ []) (free_events (stop + plant.tables.overlap_time) t (own_overlap plant t place)),
      lines,
    )

pub returns-then-is_forced-clause-spare : goal.returns-then-is_forced-clause-spare
returns-then-is_forced-clause-spare c = omega (arith, c.push-2.ensures.spare, c.push-then-is_forced.ensures.spare, c.push_overlap.ensures.spare)
