-- The first of some sections that somebody holds.
use Rattle.std.specs.Prelude.{ℕ, List, [], ◌∷◌, Option, Some, None, get_or}

-- a section and its holder, where somebody holds it, and else what is asked for behind it
abbrev pub held_or : ℕ → Option ℕ → Option (ℕ × ℕ) → Option (ℕ × ℕ)
held_or x (Some t) behind = Some (x, t)
held_or x None behind = behind

-- the first of the sections that somebody holds, and its holder
abbrev pub first_held : List (Option ℕ) → List ℕ → Option (ℕ × ℕ)
first_held holders [] = None
first_held holders (x ∷ xs) = held_or x (get_or holders x None) (first_held holders xs)
