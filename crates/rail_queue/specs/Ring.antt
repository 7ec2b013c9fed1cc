-- How the events of a queue lie in chains: the first ones are a ring of buckets of time, the one after them is for all that is far.
use Rattle.std.specs.Prelude.{◌≡◌, ℕ, zero, suc, ◌+◌, ◌/◌, ◌%◌, ◌<◌, ◌≤◌, true, false, cond, List, [], ◌∷◌, ◌++◌, ◌&&◌, nat_le, nat_lt, length, get_or, set}
use Rattle.std.specs.List.{AllByRecursion}
use Rattle.rail_queue.specs.declared.event.Event.{Event}
use Rattle.rail_queue.specs.Order.{goes_before, is_sorted}

-- the bucket of an event, of 64 tenths of a second
abbrev pub bucket : Event → ℕ
bucket event = event.at / 64

-- how many chains the ring has
unfoldable pub ring : ℕ
ring = 1024

-- the chain of a bucket: its own where it lies in the ring that begins with another bucket, else the far one
abbrev pub chain_in : ℕ → ℕ → ℕ
chain_in base b = cond (nat_le base b && nat_lt b (base + 1024)) (b % 1024) 1024

-- the chain of an event: that of its bucket
abbrev pub chain_at : ℕ → Event → ℕ
chain_at base event = chain_in base (bucket event)

-- the events of a chain
abbrev pub events_in : List (ℕ × Event) → List Event
events_in [] = []
events_in (held ∷ rest) = held.1 ∷ events_in rest

-- the events of so many chains, one chain after the other
abbrev pub near_events : ℕ → List (List (ℕ × Event)) → List Event
near_events zero chains = []
near_events (suc n) [] = []
near_events (suc n) (chain ∷ chains) = events_in chain ++ near_events n chains

-- the events of all chains: those of the far chain, which is the one after so many others, were pushed before equal ones of the ring
abbrev pub all_events : ℕ → List (List (ℕ × Event)) → List Event
all_events near chains = events_in (get_or chains near []) ++ near_events near chains

-- an event lies in the chain of its bucket, within the ring that begins with a bucket
pub record LiesIn (near base chain : ℕ) (event : Event) : Type 0 where
  pub from : base ≤ bucket event
  pub before : bucket event < base + near
  pub at : bucket event % near ≡ chain

-- each chain is sorted, and near events lie in the chains of their buckets
pub record IsRing (near base : ℕ) (chains : List (List (ℕ × Event))) : Type 0 where
  pub long : length chains ≡ suc near
  pub sorted : (c : ℕ) → is_sorted (events_in (get_or chains c [])) ≡ true
  pub lies : (c : ℕ) → c < near → AllByRecursion (LiesIn near base c) (events_in (get_or chains c []))

-- a chain with an event put behind those that it doesn't go before
pub record IsPut (old new : List (List (ℕ × Event))) (chain : ℕ) (event : Event) : Type 0 where
  pub front : List (ℕ × Event)
  pub rest : List (ℕ × Event)
  pub slot : ℕ
  pub was : get_or old chain [] ≡ front ++ rest
  pub is : new ≡ set old chain (front ++ (slot, event) ∷ rest)
  pub kept : AllByRecursion (λ x. goes_before event x ≡ false) (events_in front)
  pub later : AllByRecursion (λ x. goes_before event x ≡ true) (events_in rest)
