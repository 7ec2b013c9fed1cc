use Rattle.std.proofs.Common.{◌≡◌, ℕ, ◌+◌, ◌≤◌, Bool, cond, List, [], ◌∷◌, length, count_by}
use Rattle.rail_base.specs.declared.history.What.TheVariants.{Free}
use Rattle.rail_laws_events.specs.Accounts.{tally}
use Rattle.rail_block.specs.KnownMoves.{of_move, timed, times_after}
use Rattle.rail_state.specs.Events.{event_of}
use Rattle.rail_queue.specs.declared.event.Event.{Event}
use Rattle.rail_rules.specs.Fronts.{at_time}
use Rattle.rail_rules.specs.Intervals.{does_stand, end_time}
use Rattle.rail_rules.specs.Numbers.{gather}
use Rattle.rail_rules.specs.Plant.{step_section}
use Rattle.rail_state.proofs.pushes.push_stood.Given as goal

abbrev pub invariant-loop-index : goal.invariant-loop-index
invariant-loop-index l = record {
  counted : (adms : List ℕ) → l.next ≡ times_after l.known adms → (q : Event → Bool)
      → count_by q l.queue.events ≡ count_by q l.fn.queue.events
      + tally (λ e. q (event_of e)) (gather (λ j. cond (of_move does_stand l.known j)
      (at_time (timed end_time l.known adms j) (Free (of_move step_section l.known j) l.known.train) ∷ []) []) l.index);
  room : length l.queue.events + l.queue.spare ≡ length l.fn.queue.events + l.fn.queue.spare;
  spare : l.fn.queue.spare ≤ l.queue.spare + l.index;
}
