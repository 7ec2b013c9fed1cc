-- A line that is handed on piece by piece.
use Rattle.std.specs.Prelude.{◌≡◌, ℕ, List, ◌++◌, Option}
use Rattle.rail_io.specs.Writes.{Adds}

-- the text is what was written in a call, and what is left for later behind it
pub record IsHandedOn (before now : Option (List ℕ)) (left text : List ℕ) : Type 0 where
  pub written : List ℕ
  pub adds : Adds before now written
  pub whole : written ++ left ≡ text
