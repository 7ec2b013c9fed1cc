use Rattle.std.proofs.Common.{◌≡◌, ℕ, ◌+◌, ◌*◌, ◌≤◌, Bool, List, [], ◌∷◌, length, count_by}
use Rattle.rail_laws_events.specs.Accounts.{tally}
use Rattle.rail_block.specs.KnownMoves.{of_move, own_times, timed}
use Rattle.rail_state.specs.Events.{event_of}
use Rattle.rail_queue.specs.declared.event.Event.{Event}
use Rattle.rail_rules.specs.Events.{enter_line, free_lines}
use Rattle.rail_rules.specs.Intervals.{end_of}
use Rattle.rail_rules.specs.Numbers.{gather}
use Rattle.rail_rules.specs.Plant.{step_section}
use Rattle.rail_rules.specs.Times.{enter}
use Rattle.rail_state.proofs.pushes.push_steps.Given as goal

abbrev pub invariant-loop-index : goal.invariant-loop-index
invariant-loop-index l = record {
  entering : (adms : List ℕ) → l.times ≡ own_times l.known adms → l.entered ≡ timed enter l.known adms l.index;
  soon : l.entered ≤ l.times.go + 8388608 * l.index;
  counted : (adms : List ℕ) → length adms ≡ l.known.place → l.times ≡ own_times l.known adms → (q : Event → Bool)
      → count_by q l.queue.events ≡ count_by q l.fn.queue.events
      + (tally (λ e. q (event_of e)) (gather (λ j. timed enter_line l.known adms j ∷ []) l.index)
      + tally (λ e. q (event_of e)) (gather (λ j. free_lines l.known.train (of_move step_section l.known j) (timed end_of l.known adms j)) l.index));
  room : length l.queue.events + l.queue.spare ≡ length l.fn.queue.events + l.fn.queue.spare;
  spare : l.fn.queue.spare ≤ l.queue.spare + 2 * l.index;
}
