-- What an analyst keeps from search to search.
use Rattle.std.specs.Prelude.{◌≡◌, ◌≢◌, ℕ, Bool, false, List, IsTrue}
use Rattle.rail_rules.specs.Moves.{Moves}
use Rattle.rail_rules.specs.Places.{completes}
use Rattle.rail_rules.specs.Analysis.{Finds}
use Rattle.rail_sets.specs.declared.train_set.TrainSet.{TrainSet}
use Rattle.rail_sets.specs.TrainSets.{has_train}
use Rattle.rail_consequence.specs.Cores.{IsCore}
use Rattle.rail_consequence.specs.Needs.{AreRowsBut, IsRowsOf, IsTallyFor, Placed, SetRows}
use Rattle.rail_consequence.specs.Stops.{IsNotedTo}
use Rattle.rail_consequence.specs.Workspace.{IsListing}
use Rattle.rail_consequence.specs.declared.notes.SearchNotes.{SearchNotes}

-- the list of the trains that are inside at the places of a tally, the tally, what is noted of the trains there, the sets of the trains at each place, the moves that the last search made, and the core of the last one that failed
pub record Tallied : Type 0 where
  pub inside : List ℕ
  pub tally : Placed
  pub notes : SearchNotes
  pub rows : SetRows
  pub list : List ℕ
  pub core : TrainSet

-- all of this belongs to the moves
pub record IsAnalystFor (plan : Moves) (tallied : Tallied) : Type 0 where
  pub listed : IsListing plan tallied.tally.positions tallied.inside
  pub tally : IsTallyFor plan tallied.tally
  pub noted : IsNotedTo plan tallied.tally.positions tallied.notes
  pub rows : IsRowsOf plan tallied.rows

-- the plans have the same moves of all trains but this one
pub record AreAlikeBut (t : ℕ) (plan other : Moves) : Type 0 where
  pub trains : other.trains ≡ plan.trains
  pub moves : (u : ℕ) → u ≢ t → other.moves u ≡ plan.moves u
  pub claims : (u : ℕ) → u ≢ t → other.claim u ≡ plan.claim u
  pub stands : (u : ℕ) → u ≢ t → other.standing u ≡ plan.standing u

-- all of this belongs to the moves, but for the sets of this train
pub record IsAsideFor (plan : Moves) (t : ℕ) (tallied : Tallied) : Type 0 where
  pub listed : IsListing plan tallied.tally.positions tallied.inside
  pub tally : IsTallyFor plan tallied.tally
  pub noted : IsNotedTo plan tallied.tally.positions tallied.notes
  pub rows : AreRowsBut plan t tallied.rows

-- the answer of a search from the places, by at most so many free legs: the moves that it made complete where it says so, and else none can be found, and the trains of the core are one
pub record IsAnswered (plan : Moves) (s : List ℕ) (depth : ℕ) (found : Bool) (list : List ℕ) (core : TrainSet) : Type 0 where
  pub complete : IsTrue found → IsTrue (completes plan s list)
  pub some : IsTrue found → Finds plan depth s
  pub none : found ≡ false → Finds plan depth s → ⊥
  pub stuck : found ≡ false → IsCore plan depth s (has_train core)
