-- Chains without the events of a class with a number.
use Rattle.std.specs.Prelude.{◌≡◌, ℕ, ◌+◌, ◌<◌, ◌≤◌, Bool, true, not, List, [], ◌∷◌, ◌++◌, length, get_or, set}
use Rattle.std.specs.List.{filter}
use Rattle.rail_slots.specs.Slots.{Room}
use Rattle.rail_queue.specs.declared.event.Event.{Event}
use Rattle.rail_queue.specs.declared.event.Class.{Class}
use Rattle.rail_queue.specs.Order.{is_of}

-- the event is not of the class with the number
abbrev pub is_other : Class → ℕ → Event → Bool
is_other class number event = not (is_of class number event)

-- the slots of a chain whose events pass a test
abbrev pub passing : (Event → Bool) → List (ℕ × Event) → List (ℕ × Event)
passing test list = filter (λ held. test held.1) list

-- the first event of a chain, if there is one, passes a test
abbrev pub first_passes : (Event → Bool) → List (ℕ × Event) → Bool
first_passes test [] = true
first_passes test (first ∷ rest) = test first.1

-- how many slots are in use
abbrev pub in_use : List (List (ℕ × Event)) → ℕ
in_use [] = 0
in_use (chain ∷ chains) = length chain + in_use chains

-- some events of one chain that don't pass the test were taken out, and nothing else
pub record IsCleared (test : Event → Bool) (old new : Room Event) (chain : ℕ) : Type 0 where
  pub left : List (ℕ × Event)
  pub chains : new.chains ≡ set old.chains chain left
  pub same : passing test left ≡ passing test (get_or old.chains chain [])
  pub room : length left + new.spare ≡ length (get_or old.chains chain []) + old.spare

-- all events of one chain that don't pass the test were taken out up to a slot, whose event passes, and nothing else
pub record IsSwept (test : Event → Bool) (old new : Room Event) (chain slot : ℕ) : Type 0 where
  pub front : List (ℕ × Event)
  pub item : Event
  pub rest : List (ℕ × Event)
  pub within : chain < length old.chains
  pub chains : new.chains ≡ set old.chains chain (front ++ (slot, item) ∷ rest)
  pub same : passing test (get_or old.chains chain []) ≡ front ++ (slot, item) ∷ passing test rest
  pub room : length (front ++ (slot, item) ∷ rest) + new.spare ≡ length (get_or old.chains chain []) + old.spare

-- one chain has the events left that pass the test, and the others are as before
pub record IsThinned (test : Event → Bool) (old new : Room Event) (chain : ℕ) : Type 0 where
  pub chains : new.chains ≡ set old.chains chain (passing test (get_or old.chains chain []))
  pub room : length (passing test (get_or old.chains chain [])) + new.spare ≡ length (get_or old.chains chain []) + old.spare

-- the first chains, so many, have the events left that pass the test, and the others are as before
pub record AreThinned (test : Event → Bool) (old new : Room Event) (chains : ℕ) : Type 0 where
  pub long : length new.chains ≡ length old.chains
  pub thin : (c : ℕ) → c < chains → get_or new.chains c [] ≡ passing test (get_or old.chains c [])
  pub same : (c : ℕ) → chains ≤ c → get_or new.chains c [] ≡ get_or old.chains c []
  pub room : in_use new.chains + new.spare ≡ in_use old.chains + old.spare
