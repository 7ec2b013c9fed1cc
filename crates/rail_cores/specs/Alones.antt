-- Trains that stand alone, and what searches for them.
use Rattle.std.specs.Prelude.{◌≡◌, ℕ, ◌<◌, ◌^◌, ◌⊎◌, ◌↔◌, List, Some, None, length, get_or, IsTrue}
use Rattle.rail_base.specs.declared.limits.TheConstants.{SECTIONS}
use Rattle.rail_rules.specs.Moves.{Moves}
use Rattle.rail_rules.specs.Places.{holds, is_valid_state, place_of}
use Rattle.rail_place.specs.PlaceStates.{State}
use Rattle.rail_sets.specs.declared.train_set.TrainSet.{TrainSet}
use Rattle.rail_sets.specs.TrainSets.{has_train}
use Rattle.rail_consequence.specs.AnalystStates.{IsAnalystFor}
use Rattle.rail_cores.specs.declared.alone.Alone.{Alone}

-- the places are a valid state of the moves, and tell which trains hold sections there
pub record ArePlacesOf (plan : Moves) (state : State) : Type 0 where
  pub valid : IsTrue (is_valid_state plan state.positions)
  pub room : length state.owners ≡ SECTIONS
  pub counted : state.played < 2 ^ 64
  pub told : (x u : ℕ) → (get_or state.owners x None ≡ Some u) ↔ IsTrue (holds plan state.positions u x)

-- analyst and places belong to the moves
pub record IsAloneFor (plan : Moves) (alone : Alone) : Type 0 where
  pub analyst : IsAnalystFor plan alone.analyst
  pub places : ArePlacesOf plan alone.places

-- each train is outside
abbrev pub IsEmpty : List ℕ → Type 0
IsEmpty s = (t : ℕ) → place_of s t ≡ 0

-- in the second state each train is outside, or is one of these and stands where it stands in the first one
abbrev pub StandAlone : TrainSet → List ℕ → List ℕ → Type 0
StandAlone trains s q = (t : ℕ) → (place_of q t ≡ 0) ⊎ (IsTrue (has_train trains t) × (place_of q t ≡ place_of s t))
