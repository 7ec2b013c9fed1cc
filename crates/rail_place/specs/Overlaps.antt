-- Two trains that would hold one section.
use Rattle.std.specs.Prelude.{◌≡◌, ℕ, ◌<◌, IsTrue}
use Rattle.std.specs.Prelude.{List}
use Rattle.rail_rules.specs.Moves.{Moves}
use Rattle.rail_rules.specs.Places.{holds}
use Rattle.rail_place.specs.declared.barring.PlacesFault.{PlacesFault}
use Rattle.rail_place.specs.declared.barring.PlacesFault.TheVariants.{Overlap, OutOfMemory}

-- the section is the least that two trains hold, and these are the two least trains that hold it
pub record IsOverlap (plan : Moves) (s : List ℕ) (section first second : ℕ) : Type 0 where
  pub ordered : first < second
  pub first_holds : IsTrue (holds plan s first section)
  pub second_holds : IsTrue (holds plan s second section)
  pub least_trains : (t : ℕ) → t < second → IsTrue (holds plan s t section) → t ≡ first
  pub least_section : (x t u : ℕ) → x < section → IsTrue (holds plan s t x) → IsTrue (holds plan s u x) → t ≡ u

-- what the fault says
abbrev pub IsFault : Moves → List ℕ → PlacesFault → Type 0
IsFault plan s OutOfMemory = Unit {0}
IsFault plan s (Overlap section first second) = IsOverlap plan s section first second
