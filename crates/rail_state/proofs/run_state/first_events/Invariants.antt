use Rattle.std.proofs.Common.{◌≡◌, ◌+◌, Bool, [], ◌∷◌, length}
use Rattle.std.specs.Prelude.{count_by}
use Rattle.rail_rules.specs.Numbers.{gather}
use Rattle.rail_queue.specs.declared.event.Event.{Event}
use Rattle.rail_queue.specs.declared.event.Class.TheVariants.{Ready}
use Rattle.rail_state.specs.Events.{train_event}
use Rattle.rail_state.specs.TrainStates.{state_of}
use Rattle.rail_state.specs.declared.pushes.TheConstants.{MOVE_EVENTS}
use Rattle.rail_laws_step.specs.MostDue.{most_due}
use Rattle.rail_state.proofs.run_state.first_events.Given as goal

abbrev pub invariant-loop-number : goal.invariant-loop-number
invariant-loop-number l = record {
  counted : (q : Event → Bool) → count_by q l.queue.events ≡ count_by q (gather (λ t. train_event (state_of l.states t).times.next_ready Ready t 1 ∷ []) l.number);
  room : length l.queue.events + l.queue.spare ≡ most_due l.plant (length l.commands) + MOVE_EVENTS;
  many : length l.queue.events ≡ l.number;
}
