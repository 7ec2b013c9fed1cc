use Rattle.std.proofs.Common.{◌≡◌, ◌+◌, ◌≤◌, Bool, length, drop}
use Rattle.std.specs.Prelude.{count_by}
use Rattle.rail_queue.specs.declared.event.Event.{Event}
use Rattle.rail_state.specs.Events.{command_events}
use Rattle.rail_state.proofs.run_state.push_commands.Given as goal

abbrev pub invariant-loop-left : goal.invariant-loop-left
invariant-loop-left l = record {
  counted : (q : Event → Bool) → count_by q l.queue.events ≡ count_by q l.initial.queue.events + count_by q (command_events l.left (drop l.left l.commands));
  within : l.left ≤ length l.commands;
  room : length l.queue.events + l.queue.spare ≡ length l.initial.queue.events + l.initial.queue.spare;
  spare : l.left ≤ l.queue.spare;
}

abbrev pub decreases-loop-left : goal.decreases-loop-left
decreases-loop-left l = l.left
