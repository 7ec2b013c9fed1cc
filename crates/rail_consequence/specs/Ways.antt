-- What is in the way of a train.
use Rattle.std.specs.Prelude.{ℕ, ◌<◌, ◌≤◌, List, IsTrue}
use Rattle.rail_rules.specs.Numbers.{is_in}
use Rattle.rail_rules.specs.Moves.{Moves, stand}
use Rattle.rail_sets.specs.Sets.{has}

-- for its moves from the one place up to the other the train needs no section of the set but those on which it stands at the first
abbrev pub IsWayFree : Moves → ℕ → ℕ → ℕ → List ℕ → Type 0
IsWayFree plan t from to taken = (i x : ℕ) → from ≤ i → i < to → IsTrue (is_in x (plan.claim t i))
    → IsTrue (has taken x) → IsTrue (is_in x (stand plan t from))
