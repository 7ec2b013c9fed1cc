-- Where two histories of one input part.
use Rattle.std.specs.Prelude.{◌≡◌, ℕ, Bool, true, false, not, ◌&&◌, ◌||◌, nat_lt, List, [], ◌∷◌, ◌++◌}
use Rattle.std.specs.List.{list_all}
use Rattle.rail_base.specs.declared.orders.PolicyKind.{PolicyKind}
use Rattle.rail_base.specs.declared.orders.PolicyKind.TheVariants.{Custom}
use Rattle.rail_base.specs.declared.history.What.TheVariants.{Admit}
use Rattle.rail_base.specs.declared.history.Note.TheVariants.{Fresh}
use Rattle.rail_rules.specs.Fronts.{Line, Front, is_admission}
use Rattle.rail_rules.specs.Orders.{Input}
use Rattle.rail_rules.specs.RunHistories.{Seat, seat_of, force_of}

-- the kind is a built-in one
abbrev pub is_built_in : PolicyKind → Bool
is_built_in Custom = false
is_built_in _ = true

-- the kind of the policy in force after the front
abbrev pub kind_in_force : Input → List Seat → Front → PolicyKind
kind_in_force input seats front = (seat_of seats (force_of input front)).kind

-- a built-in kind is in force at each admission of the front
abbrev pub is_built_in_throughout : Input → List Seat → Front → Bool
is_built_in_throughout input seats [] = true
is_built_in_throughout input seats (line ∷ before) = is_built_in_throughout input seats before
    && (not (is_admission line.entry.what) || is_built_in (kind_in_force input seats before))

-- each mark is a 16-bit number
abbrev pub are_marks : List Seat → Bool
are_marks seats = list_all (λ (seat : Seat). nat_lt seat.mark 65536) seats

-- two lines are fresh admissions of the same move of the same train at the same time, with different lists
pub record AreForked (line other : Line) : Type 0 where
  pub train : ℕ
  pub move : ℕ
  pub fresh : line.entry.what ≡ Admit train move Fresh
  pub same : line.entry ≡ other.entry
  pub different : line.trains ≡ other.trains → ⊥

-- the first line in which the two histories differ is a fresh admission in both, with different lists
pub record IsFork (first second : Front) : Type 0 where
  pub common : Front
  pub line : Line
  pub other : Line
  pub later : List Line
  pub other_later : List Line
  pub of_first : first ≡ later ++ line ∷ common
  pub of_second : second ≡ other_later ++ other ∷ common
  pub forked : AreForked line other
