-- A list of moves played from one state to another.
use Rattle.std.specs.Prelude.{◌≡◌, ℕ, List, [], ◌∷◌, IsTrue}
use Rattle.rail_rules.specs.Moves.{Moves}
use Rattle.rail_rules.specs.Places.{is_inside, is_legal, after}

-- each train named is inside at its turn, its move is legal, and the moves lead to the state
abbrev pub IsPlayed : Moves → List ℕ → List ℕ → List ℕ → Type 0
IsPlayed plan s [] r = s ≡ r
IsPlayed plan s (t ∷ rest) r = IsTrue (is_inside plan s t) × IsTrue (is_legal plan s t) × IsPlayed plan (after s t) rest r
