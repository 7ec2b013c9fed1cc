-- The chain whose first event comes first of all.
use Rattle.std.specs.Prelude.{◌≡◌, ℕ, ◌+◌, ◌%◌, ◌<◌, true, false, List, [], ◌∷◌, get_or, length, Option, Some, None}
use Rattle.rail_queue.specs.declared.event.Event.{Event}
use Rattle.rail_queue.specs.Order.{goes_before}
use Rattle.std.specs.List.{AllByRecursion}
use Rattle.rail_queue.specs.Ring.{events_in, ring}

-- the chain so many buckets behind the first one of the ring
abbrev pub turn : ℕ → ℕ → ℕ
turn base step = (base % 1024 + step) % 1024

-- so many chains from the first one of the ring on are empty
abbrev pub AreNearEmpty : List (List (ℕ × Event)) → ℕ → ℕ → Type 0
AreNearEmpty chains base steps = (j : ℕ) → j < steps → get_or chains (turn base j) [] ≡ []

-- the chain is the first one of the ring with an event
pub record IsNearest (chains : List (List (ℕ × Event))) (base chain : ℕ) : Type 0 where
  pub step : ℕ
  pub low : step < 1024
  pub at : chain ≡ turn base step
  pub before : AreNearEmpty chains base step
  pub slot : ℕ
  pub first : Event
  pub rest : List (ℕ × Event)
  pub is : get_or chains chain [] ≡ (slot, first) ∷ rest

-- the first event of the chain comes first of all: no event goes before it, and where it lies in the ring, no far event is equal to it, which would have been pushed before
pub record IsChosen (chains : List (List (ℕ × Event))) (chain : ℕ) : Type 0 where
  pub within : chain < length chains
  pub slot : ℕ
  pub first : Event
  pub rest : List (ℕ × Event)
  pub is : get_or chains chain [] ≡ (slot, first) ∷ rest
  pub none : (c : ℕ) → AllByRecursion (λ x. goes_before x first ≡ false) (events_in (get_or chains c []))
  pub far : chain < ring → AllByRecursion (λ x. goes_before first x ≡ true) (events_in (get_or chains ring []))

-- the chain whose first event comes first of all, if there is an event
abbrev pub IsFirstChain : List (List (ℕ × Event)) → Option ℕ → Type 0
IsFirstChain chains None = (c : ℕ) → get_or chains c [] ≡ []
IsFirstChain chains (Some chain) = IsChosen chains chain
