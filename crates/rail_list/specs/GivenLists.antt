-- An admission with a given note and list.
use Rattle.std.specs.Prelude.{ℕ, ◌==◌, Bool, not, ◌&&◌, nat_lt, List, length}
use Rattle.rail_base.specs.declared.history.Note.{Note}
use Rattle.rail_base.specs.declared.history.Note.TheVariants.{Pulled, Appended, Fresh}
use Rattle.rail_rules.specs.Moves.{Moves}
use Rattle.rail_rules.specs.Places.{after, completes, place_of}
use Rattle.rail_rules.specs.Fronts.{without_first}
use Rattle.rail_list.specs.KeptLists.{with_moves_left}

-- the list that an admission with this note keeps
abbrev pub given_list : Moves → List ℕ → ℕ → Note → List ℕ → List ℕ
given_list plan list t Pulled given = without_first t list
given_list plan list t Appended given = with_moves_left plan t list
given_list plan list t Fresh given = given

-- the note fits the train's place, and the list that is kept completes after the move
abbrev pub may_be_given : Moves → List ℕ → List ℕ → ℕ → Note → List ℕ → Bool
may_be_given plan s list t Pulled given = nat_lt 0 (place_of s t) && completes plan (after s t) (without_first t list)
may_be_given plan s list t Appended given = (place_of s t == 0) && completes plan (after s t) (with_moves_left plan t list)
may_be_given plan s list t Fresh given = not (length given == 0) && completes plan (after s t) given
