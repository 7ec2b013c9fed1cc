-- Which chains of the ring have an event, by a bit for each, 64 to a word.
use Rattle.std.specs.Prelude.{◌≡◌, ℕ, ◌+◌, ◌/◌, ◌%◌, ◌<◌, List, [], ◌∷◌, get_or, Option}
use Rattle.std.specs.Int.{bit_at}
use Rattle.rail_queue.specs.declared.event.Event.{Event}
use Rattle.rail_queue.specs.Choice.{IsFirstChain}
use Rattle.rail_queue.specs.Ring.{IsRing, ring}

-- the bit of a chain
unfoldable pub mark_at : List ℕ → ℕ → ℕ
mark_at words chain = bit_at (get_or words (chain / 64) 0) (chain % 64)

-- the mark that a chain is to have
abbrev pub mark_of : List (ℕ × Event) → ℕ
mark_of [] = 0
mark_of (first ∷ rest) = 1

-- each chain of the ring has its mark
abbrev pub AreMarked : List ℕ → List (List (ℕ × Event)) → ℕ → Type 0
AreMarked words chains n = (c : ℕ) → c < n → mark_at words c ≡ mark_of (get_or chains c [])

-- so many chains around the ring have no mark, from one on
abbrev pub AreBare : List ℕ → ℕ → ℕ → Type 0
AreBare words start steps = (j : ℕ) → j < steps → mark_at words ((start + j) % 1024) ≡ 0

-- the first marked chain around the ring, from one on
pub record IsFirstMarked (words : List ℕ) (start chain : ℕ) : Type 0 where
  pub step : ℕ
  pub low : step < 1024
  pub at : chain ≡ (start + step) % 1024
  pub marked : mark_at words chain ≡ 1
  pub bare : AreBare words start step

-- what a queue keeps: the events lie as they are to, the chains of the ring that have some are marked, and it is known which chain comes first
pub record IsKept (base : ℕ) (words : List ℕ) (chains : List (List (ℕ × Event))) (first : Option ℕ) : Type 0 where
  pub ringed : IsRing ring base chains
  pub marked : AreMarked words chains 1024
  pub chosen : IsFirstChain chains first
