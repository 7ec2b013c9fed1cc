-- What a search finds, and what it leaves undone.
use Rattle.std.specs.Prelude.{◌≡◌, ℕ, ◌↔◌, false, List, set, IsTrue}
use Rattle.rail_rules.specs.Moves.{Moves}
use Rattle.rail_rules.specs.Places.{nobody_inside}
use Rattle.rail_rules.specs.Analysis.{Leg, is_leg, is_safe, after_leg, Finds}
use Rattle.rail_consequence.specs.Workspace.{Work, GoesOn}

-- the leg of the train to the place
abbrev pub leg_to : ℕ → ℕ → Leg
leg_to t place = record { train = t; place = place }

-- what can be found from the one state can be found from the other, by as many free legs
abbrev pub FindsSame : Moves → List ℕ → List ℕ → Type 0
FindsSame plan s later = (k : ℕ) → Finds plan k s ↔ Finds plan k later

-- no leg is safe
abbrev pub HasNoSafeLeg : Moves → List ℕ → Type 0
HasNoSafeLeg plan s = (leg : Leg) → IsTrue (is_leg plan s leg) → is_safe plan s leg ≡ false

-- no leg of the train is safe
abbrev pub HasNoSafeLegOf : Moves → List ℕ → ℕ → Type 0
HasNoSafeLegOf plan s t = (place : ℕ) → IsTrue (is_leg plan s (leg_to t place)) → is_safe plan s (leg_to t place) ≡ false

-- no first leg leads to where so many free legs are enough
abbrev pub FindsByNoLeg : Moves → ℕ → List ℕ → Type 0
FindsByNoLeg plan k s = (leg : Leg) → IsTrue (is_leg plan s leg) → Finds plan k (after_leg s leg) → ⊥

-- no first leg of the train leads to where so many free legs are enough
abbrev pub FindsByNoLegOf : Moves → ℕ → List ℕ → ℕ → Type 0
FindsByNoLegOf plan k s t = (place : ℕ) → IsTrue (is_leg plan s (leg_to t place)) → Finds plan k (set s t place) → ⊥

-- moves were made until nobody is inside, from where so many free legs are enough
abbrev pub IsCleared : Moves → ℕ → Work → Work → Type 0
IsCleared plan k old new = GoesOn plan old new × IsTrue (nobody_inside plan new.places.positions) × Finds plan k old.places.positions
