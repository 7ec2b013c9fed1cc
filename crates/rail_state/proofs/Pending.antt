-- Pending events and the arrivals that are deferred.
use Rattle.std.proofs.Common.{◌≡◌, ℕ, ◌+◌, ◌<◌, Bool, true, List, [], ◌∷◌, Some, None, refl, sym, ap, ◌∙◌, arith}
use Rattle.std.specs.Prelude.{count_by}
use Rattle.rail_rules.specs.Plant.{Plant, moves, trains}
use Rattle.rail_rules.specs.Fronts.{Line, Front}
use Rattle.rail_rules.specs.Lawful.{is_lawful}
use Rattle.rail_rules.proofs.CallerLemmas.{gather_same}
use Rattle.rail_laws_front.specs.Premises.{IsWellFormed}
use Rattle.rail_laws_events.specs.Accounts.{is_train_event}
use Rattle.rail_laws_step.proofs.CallerLemmas.{event_left}
use Rattle.rail_queue.specs.declared.event.Event.{Event}
use Rattle.rail_state.specs.Events.{deferred_of, event_of}
use Rattle.rail_state.specs.declared.train.TrainState.{TrainState}
use Rattle.rail_state.specs.TrainStates.{state_of}
use Rattle.rail_state.specs.Representation.{ArePending, IsBound, IsDeferred, deferred_events}
use Rattle.rail_state.proofs.Times.{IsSame}
use Rattle.rail_rules.specs.Orders.{Dispatch, input_of}

pub held_same : (plant : Plant) (states after : List TrainState) → IsSame (λ r. r.place) plant states after → IsSame (λ r. r.deferred) plant states after → deferred_events plant after ≡ deferred_events plant states
held_same plant states after places arrivals =
    gather_same (λ t. deferred_of plant t (state_of after t).place (state_of after t).deferred) (λ t. deferred_of plant t (state_of states t).place (state_of states t).deferred) (trains plant)
    (λ t lt. ap (λ m. deferred_of plant t m (state_of after t).deferred) (places t lt) ∙ ap (deferred_of plant t (state_of states t).place) (arrivals t lt))

-- the event that was given leaves the pending ones
pub pending_after : (dispatch : Dispatch) (plant : Plant) → IsWellFormed plant → (line : Line) (front : Front) → is_lawful (input_of dispatch plant) (line ∷ front) ≡ true → is_train_event line.entry.what ≡ true
    → (event : Event) (events rest : List Event) (states after : List TrainState) → event_of line.entry ≡ event
    → ((q : Event → Bool) → count_by q events ≡ count_by q (event ∷ []) + count_by q rest)
    → IsSame (λ r. r.place) plant states after → IsSame (λ r. r.deferred) plant states after
    → ((t at : ℕ) → t < trains plant → (state_of states t).deferred ≡ Some at → IsDeferred plant t line.entry.at (state_of after t) at)
    → ((t : ℕ) → t < trains plant → (state_of after t).deferred ≡ None → 0 < (state_of after t).place → (state_of after t).place < moves plant t → IsBound plant t (state_of after t))
    → ArePending dispatch plant front events states → ArePending dispatch plant (line ∷ front) rest after
pending_after dispatch plant fine line front lawful kind event events rest states after same popped places arrivals still bound are = record {
  counted = λ q.
      omega (
        arith,
        are.counted q,
        popped q,
        event_left (input_of dispatch plant) fine line front lawful kind (λ e. q (event_of e)) (λ at k. refl),
        ap (λ list. count_by q list) (held_same plant states after places arrivals),
        ap (λ e. count_by q (e ∷ [])) same,
      );
  deferred = λ t at lt held. still t at lt (sym (arrivals t lt) ∙ held);
  bound = bound;
}
