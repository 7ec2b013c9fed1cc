use Rattle.std.proofs.Common.{◌≡◌, ℕ, ◌+◌, ◌-◌, List, [], ◌∷◌, cond, count_by, length, ap, sym, ◌∙◌, arith}
use Rattle.rail_base.specs.declared.history.Entry.{Entry}
use Rattle.rail_base.specs.declared.history.What.TheVariants.{Free}
use Rattle.rail_laws_events.specs.Accounts.{tally}
use Rattle.rail_block.specs.declared.moves.KnownMove.{KnownMove}
use Rattle.rail_block.specs.KnownMoves.{of_move, timed, times_after}
use Rattle.rail_rules.specs.Fronts.{at_time}
use Rattle.rail_rules.specs.Intervals.{does_stand, end_time}
use Rattle.rail_rules.specs.Numbers.{gather}
use Rattle.rail_rules.specs.Plant.{step_section, steps}
use Rattle.rail_state.specs.Events.{event_of}
use Rattle.rail_state.proofs.Counting.{one_more_of_one}
use Rattle.rail_state.proofs.Leaving.{as_rows, before, freed_there, item_of_step}
use Rattle.rail_state.proofs.pushes.push_stood.Goals as goal

pub loop-index-preserved : goal.loop-index-preserved
loop-index-preserved c = record {
  counted = λ adms is q.
      let plant = c.args.known.now.plant.now in
      let t = c.args.known.now.train in
      let m = c.args.known.now.place - 1 in
      let i = c.loop-index.index in
      let index : i + 1 - 1 ≡ i = omega arith in
      let move = c.new-step.ensures.of in
      let number : c.new-step.result.step - 1 ≡ i = ap (λ n. n - 1) c.new-step.ensures.step ∙ index in
      let section = item_of_step plant t m i c.index-sections-index.result c.as_slice-sections.result.now (as_rows plant t m c.row.result.now c.as_slice-sections.result.now c.row.ensures.row c.as_slice-sections.ensures) c.loop-index-test.true c.index-sections-index.is in
      let line : KnownMove → ℕ → ℕ → List Entry = λ known j x. cond (of_move does_stand known j) (at_time (timed end_time known adms j) (Free x known.train) ∷ []) [] in
      one_more_of_one (λ e. q (event_of e)) (λ j. line c.args.known.now j (step_section plant t m j)) i
      (count_by q c.args.queue.now.events) (count_by q c.loop-index.queue.events) (count_by q c.push_if_stood.new.queue.events)
      (c.loop-index.invariant.counted adms is q)
      (c.push_if_stood.ensures.counted adms (is ∙ ap (λ (known : KnownMove). times_after known adms) (sym move)) q
      ∙ (λ k. count_by q c.loop-index.queue.events + tally (λ e. q (event_of e)) (line (move k) (number k) (section k))));
  room = omega (arith, c.loop-index.invariant.room, c.push_if_stood.ensures.room);
  spare = omega (arith, c.loop-index.invariant.spare, c.push_if_stood.ensures.spare);
}

pub returns-clause-counted : goal.returns-clause-counted
returns-clause-counted c = λ adms long is q.
    let plant = c.args.known.now.plant.now in
    let t = c.args.known.now.train in
    let m = c.args.known.now.place - 1 in
    let line : ℕ → List Entry = λ j. cond (does_stand plant t m j) (at_time (end_time plant t adms m j) (Free (step_section plant t m j) t) ∷ []) [] in
    let all = as_rows plant t m c.row.result.now c.as_slice-sections.result.now c.row.ensures.row c.as_slice-sections.ensures in
    let done : c.loop-index.index ≡ steps plant t m = omega (arith, c.loop-index-test.false, c.loop-index.auto.index-end, ap length all) in
    omega (arith, c.loop-index.invariant.counted adms is q, ap (λ n. tally (λ e. q (event_of e)) (gather line n)) done, ap (tally (λ e. q (event_of e))) (freed_there plant t adms c.args.known.now.place m (before c.args.known.now.place c.args.known.now.first)))
