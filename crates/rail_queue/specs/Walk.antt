-- How far a search through a chain has come.
use Rattle.std.specs.Prelude.{◌≡◌, ℕ, ◌+◌, ◌≤◌, true, false, Bool, List, [], ◌∷◌, length, get_or}
use Rattle.std.specs.List.{AllByRecursion}
use Rattle.rail_slots.specs.Slots.{Room, StandsAt}
use Rattle.rail_queue.specs.declared.event.Event.{Event}
use Rattle.rail_queue.specs.Order.{goes_before}
use Rattle.rail_queue.specs.Ring.{events_in}

-- the event goes before the first event of a chain
abbrev pub starts_before : Event → List (ℕ × Event) → Bool
starts_before event [] = false
starts_before event (first ∷ rest) = goes_before event first.1

-- a slot of the chain is reached by a step from each slot before it at most, and the event goes before none of those so far
pub record IsReached (old new : Room Event) (chain : ℕ) (event : Event) (slot : ℕ) : Type 0 where
  pub chains : new.chains ≡ old.chains
  pub spare : new.spare ≡ old.spare
  pub front : List (ℕ × Event)
  pub item : Event
  pub rest : List (ℕ × Event)
  pub walked : new.walked ≤ old.walked + length front
  pub at : StandsAt old.chains slot chain front item rest
  pub kept : AllByRecursion (λ x. goes_before event x ≡ false) (events_in front)
  pub here : goes_before event item ≡ false

-- the last slot of a chain whose event the new one doesn't go before, reached by no more steps than the chain has slots
pub record IsLast (old new : Room Event) (chain : ℕ) (event : Event) (slot : ℕ) : Type 0 where
  pub chains : new.chains ≡ old.chains
  pub spare : new.spare ≡ old.spare
  pub walked : new.walked ≤ old.walked + length (get_or old.chains chain [])
  pub front : List (ℕ × Event)
  pub item : Event
  pub rest : List (ℕ × Event)
  pub at : StandsAt old.chains slot chain front item rest
  pub kept : AllByRecursion (λ x. goes_before event x ≡ false) (events_in front)
  pub here : goes_before event item ≡ false
  pub later : AllByRecursion (λ x. goes_before event x ≡ true) (events_in rest)
