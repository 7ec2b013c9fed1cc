use Rattle.std.proofs.Common.{◌≡◌, ◌+◌, ◌≤◌, Bool, not, length, drop, count_by}
use Rattle.std.specs.List.{filter}
use Rattle.rail_queue.specs.declared.event.Event.{Event}
use Rattle.rail_rules.specs.Numbers.{is_in}
use Rattle.rail_state.specs.Events.{free_events}
use Rattle.rail_state.proofs.pushes.push_unclaimed.Given as goal

abbrev pub invariant-loop-section : goal.invariant-loop-section
invariant-loop-section l = record {
  counted : (q : Event → Bool) → count_by q l.queue.events + count_by q (free_events l.at l.train (filter (λ x. not (is_in x l.claimed)) (drop l.section-index l.sections)))
      ≡ count_by q l.fn.queue.events + count_by q (free_events l.at l.train (filter (λ x. not (is_in x l.claimed)) l.sections));
  room : length l.queue.events + l.queue.spare ≡ length l.fn.queue.events + l.fn.queue.spare;
  spare : l.fn.queue.spare ≤ l.queue.spare + l.section-index;
}
