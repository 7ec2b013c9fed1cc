-- What places keep, and that they were made for moves.
use Rattle.std.specs.Prelude.{◌≡◌, ℕ, ◌<◌, ◌≤◌, ◌^◌, List, Option, Some, None, length, get_or, IsTrue, ◌↔◌}
use Rattle.rail_base.specs.declared.limits.TheConstants.{SECTIONS}
use Rattle.rail_rules.specs.Places.{holds, is_valid_state}
use Rattle.rail_place.specs.Tables.{moves_in, IsTable, MoveLists}

-- the place of each train, for each section the train that holds it, and how many moves were played
pub record State : Type 0 where
  pub positions : List ℕ
  pub owners : List (Option ℕ)
  pub played : ℕ

-- the places are a valid state of these moves, the count fits its type, and the owners are the trains that hold the sections in it
pub record IsMadeFor (table : List MoveLists) (state : State) : Type 0 where
  pub moves : IsTable table
  pub valid : IsTrue (is_valid_state (moves_in table) state.positions)
  pub room : length state.owners ≡ SECTIONS
  pub counted : state.played < 2 ^ 64
  pub told : (x u : ℕ) → (get_or state.owners x None ≡ Some u) ↔ IsTrue (holds (moves_in table) state.positions u x)

-- behind the first so many sections none has an owner
abbrev pub IsFreeBehind : ℕ → List (Option ℕ) → Type 0
IsFreeBehind n owners = (x : ℕ) → n ≤ x → get_or owners x None ≡ None
