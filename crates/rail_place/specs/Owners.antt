-- The table of owners, as a list.
use Rattle.std.specs.Prelude.{ℕ, List, [], ◌∷◌, Option, None, get_or, set}
use Rattle.rail_rules.specs.Numbers.{or_else}
use Rattle.rail_place.specs.declared.barring.Barred.{Barred}
use Rattle.rail_place.specs.Bars.{barred_by}

-- the table after each of the sections is given to the owner
abbrev pub given : {X : Type 0} → List X → List ℕ → X → List X
given owners [] owner = owners
given owners (x ∷ xs) owner = given (set owners x owner) xs owner

-- the first of the sections that has an owner, with that owner
abbrev pub first_owned_in : List (Option ℕ) → List ℕ → Option Barred
first_owned_in owners [] = None
first_owned_in owners (x ∷ xs) = or_else (barred_by x (get_or owners x None)) (first_owned_in owners xs)
