-- Which list brings every train inside to its exit after a move.
use Rattle.std.specs.Prelude.{◌≡◌, ℕ, ◌<◌, ◌==◌, Bool, true, false, ◌||◌, cond, List, length}
use Rattle.rail_base.specs.declared.history.Note.{Note}
use Rattle.rail_base.specs.declared.history.Note.TheVariants.{Pulled, Appended, Fresh}
use Rattle.rail_rules.specs.Moves.{Moves}
use Rattle.rail_rules.specs.Places.{after, completes, place_of}
use Rattle.rail_rules.specs.Analysis.{finds}
use Rattle.rail_rules.specs.Fronts.{without_first}
use Rattle.rail_list.specs.KeptLists.{with_moves_left}

-- the list repaired for the train's next move: pulled for a train inside, appended for an entering one
abbrev pub repaired_for : Moves → List ℕ → List ℕ → ℕ → List ℕ
repaired_for plan s list t = cond (place_of s t == 0) (with_moves_left plan t list) (without_first t list)

-- the repaired list completes after the move
abbrev pub is_repairable_for : Moves → List ℕ → List ℕ → ℕ → Bool
is_repairable_for plan s list t = completes plan (after s t) (repaired_for plan s list t)

-- a list is known after the move: the repaired one, or one that the analysis finds
abbrev pub is_known : Moves → ℕ → List ℕ → List ℕ → ℕ → Bool
is_known plan depth s list t = is_repairable_for plan s list t || finds plan depth (after s t)

-- the list of an admission with this note
abbrev pub IsNoted : Moves → ℕ → List ℕ → List ℕ → ℕ → Note → List ℕ → Type 0
IsNoted plan depth s list t Pulled new = (0 < place_of s t) × (is_repairable_for plan s list t ≡ true)
    × (new ≡ repaired_for plan s list t)
IsNoted plan depth s list t Appended new = (place_of s t ≡ 0) × (is_repairable_for plan s list t ≡ true)
    × (new ≡ repaired_for plan s list t)
IsNoted plan depth s list t Fresh new = (is_repairable_for plan s list t ≡ false)
    × (finds plan depth (after s t) ≡ true) × (completes plan (after s t) new ≡ true) × (0 < length new)
