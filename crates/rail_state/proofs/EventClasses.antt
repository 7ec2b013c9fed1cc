-- What events say, by their class.
use Rattle.std.proofs.Common.{◌≡◌, ℕ, List, sym, ap, ◌∙◌}
use Rattle.rail_rules.specs.Plant.{Plant}
use Rattle.rail_queue.specs.declared.event.Event.{Event}
use Rattle.rail_queue.specs.declared.event.Class.{Class}
use Rattle.rail_state.specs.declared.train.TrainState.{TrainState}
use Rattle.rail_state.specs.TrainStates.{state_after, state_of}
use Rattle.rail_state.specs.Representation.{what_of}

pub says : (plant : Plant) (states : List TrainState) (event : Event) (c : Class) → event.class ≡ c → what_of plant states event ≡ what_of plant states (record event { class = c })
says plant states event c is = ap (λ k. what_of plant states (record event { class = k })) is

-- the states after the line that an event of this class says
pub after_class : (plant : Plant) (states after : List TrainState) (event : Event) (c : Class) → event.class ≡ c
    → ((t : ℕ) → state_of after t ≡ state_after plant (what_of plant states (record event { class = c })) t (state_of states t)) → (t : ℕ)
    → state_of after t ≡ state_after plant (what_of plant states event) t (state_of states t)
after_class plant states after event c is each t = each t ∙ ap (λ w. state_after plant w t (state_of states t)) (sym (says plant states event c is))
