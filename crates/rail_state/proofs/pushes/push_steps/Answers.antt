use Rattle.std.proofs.Common.{◌≡◌, ℕ, suc, ◌+◌, ◌-◌, Bool, List, [], ◌∷◌, count_by, length, ap, sym, ◌∙◌, arith}
use Rattle.rail_base.specs.declared.history.Entry.{Entry}
use Rattle.rail_laws_events.specs.Accounts.{tally}
use Rattle.rail_laws_events.proofs.CallerLemmas.{tally-append}
use Rattle.rail_block.specs.declared.moves.KnownMove.{KnownMove}
use Rattle.rail_block.specs.declared.times.MoveTimes.{MoveTimes}
use Rattle.rail_block.specs.KnownMoves.{own_times, timed}
use Rattle.rail_queue.specs.declared.event.Event.{Event}
use Rattle.rail_queue.specs.declared.event.Class.TheVariants.{Enter}
use Rattle.rail_rules.specs.Events.{enter_line, free_lines}
use Rattle.rail_rules.specs.Intervals.{end_of}
use Rattle.rail_rules.specs.Numbers.{gather}
use Rattle.rail_rules.specs.Plant.{step_section, steps}
use Rattle.rail_rules.specs.Times.{enter}
use Rattle.rail_state.specs.Events.{event_of, train_event}
use Rattle.rail_state.proofs.Counting.{one_more}
use Rattle.rail_state.proofs.Leaving.{as_rows, before, item_of_step, made_at}
use Rattle.rail_state.proofs.pushes.push_steps.Goals as goal

pub loop-index-init : goal.loop-index-init
loop-index-init c = record {
  entering = λ adms is.
      let known = c.args.known.now in
      ap (λ (own : MoveTimes). own.go) (made_at known.plant.now known.train adms known.place c.args.times.now known.first is);
  soon = omega arith;
  counted = λ adms long is q. omega arith;
  room = omega arith;
  spare = omega arith;
}

pub loop-index-preserved : goal.loop-index-preserved
loop-index-preserved c = record {
  entering = λ adms is.
      let known = c.args.known.now in
      let i = c.loop-index.index in
      let index : i + 1 - 1 ≡ i = omega arith in
      let move = c.new-step.ensures.of in
      let step = c.new-step.ensures.step in
      c.next_enter_time-left.ensures.time adms (is ∙ ap (λ (k : KnownMove). own_times k adms) (sym move))
      (c.loop-index.invariant.entering adms is ∙ ap (timed enter known adms) (sym index) ∙ (λ k. timed enter (sym move k) adms (sym step k - 1)))
      ∙ (λ k. timed enter (move k) adms (step k));
  soon = omega (arith, c.loop-index.invariant.soon, c.next_enter_time-left.ensures.soon);
  counted = λ adms long is q.
      let known = c.args.known.now in
      let plant = known.plant.now in
      let t = known.train in
      let m = known.place - 1 in
      let i = c.loop-index.index in
      let index : i + 1 - 1 ≡ i = omega arith in
      let at : known.place ≡ suc m = before known.place known.first in
      let move = c.new-step.ensures.of in
      let step = c.new-step.ensures.step in
      let p : Entry → Bool = λ e. q (event_of e) in
      let entered = c.loop-index.invariant.entering adms is in
      let left = c.next_enter_time-left.ensures.time adms (is ∙ ap (λ (k : KnownMove). own_times k adms) (sym move))
      (entered ∙ ap (timed enter known adms) (sym index) ∙ (λ k. timed enter (sym move k) adms (sym step k - 1))) in
      let section = item_of_step plant t m i c.index-sections-index.result c.as_slice-sections.result.now (as_rows plant t m c.row.result.now c.as_slice-sections.result.now c.row.ensures.row c.as_slice-sections.ensures) c.loop-index-test.true c.index-sections-index.is in
      let enters : ℕ → List Entry = λ j. enter_line plant t adms m j ∷ [] in
      let frees : ℕ → List Entry = λ j. free_lines t (step_section plant t m j) (end_of plant t adms m j) in
      let event : count_by q (c.event_of_train.result ∷ []) ≡ count_by q (train_event (enter plant t adms m i) Enter t (suc m) ∷ []) =
      ap (λ (e : Event). count_by q (e ∷ [])) c.event_of_train.ensures ∙ (λ k. count_by q (train_event (entered k) Enter t (at k) ∷ [])) in
      let number : c.new-step.result.step - 1 ≡ i = ap (λ n. n - 1) step ∙ index in
      let line : KnownMove → ℕ → ℕ → List Entry = λ known j x. free_lines known.train x (timed end_of known adms j) in
      let freed : tally p (line c.new-step.result.of.now (c.new-step.result.step - 1) c.index-sections-index.result) ≡ tally p (frees i) = λ k. tally p (line (move k) (number k) (section k)) in
      one_more p enters frees i (count_by q c.args.queue.now.events) (count_by q c.loop-index.queue.events) (count_by q c.push.new.queue.events) (count_by q c.push_left.new.queue.events)
      (c.loop-index.invariant.counted adms long is q)
      (omega (arith, c.push.ensures.counted q, event))
      (c.push_left.ensures.counted adms (long ∙ ap (λ (k : KnownMove). k.place) (sym move)) left q ∙ ap (λ n. count_by q c.push.new.queue.events + n) freed);
  room = omega (arith, c.loop-index.invariant.room, c.push.ensures.room, c.push_left.ensures.room);
  spare = omega (arith, c.loop-index.invariant.spare, c.push.ensures.spare, c.push_left.ensures.spare);
}

pub returns-clause-counted : goal.returns-clause-counted
returns-clause-counted c = λ adms long is q.
    let plant = c.args.known.now.plant.now in
    let t = c.args.known.now.train in
    let m = c.args.known.now.place - 1 in
    let p : Entry → Bool = λ e. q (event_of e) in
    let enters : ℕ → List Entry = λ j. enter_line plant t adms m j ∷ [] in
    let frees : ℕ → List Entry = λ j. free_lines t (step_section plant t m j) (end_of plant t adms m j) in
    let all = as_rows plant t m c.row.result.now c.as_slice-sections.result.now c.row.ensures.row c.as_slice-sections.ensures in
    let done : c.loop-index.index ≡ steps plant t m = omega (arith, c.loop-index-test.false, c.loop-index.auto.index-end, ap length all) in
    omega (arith, c.loop-index.invariant.counted adms long is q, ap (λ n. tally p (gather enters n)) done, ap (λ n. tally p (gather frees n)) done, tally-append p (gather enters (steps plant t m)) (gather frees (steps plant t m)))
