-- Searches that failed, by train.
use Rattle.std.specs.Prelude.{◌≡◌, ℕ, suc, ◌<◌, ◌==◌, Bool, true, false, not, ◌&&◌, ◌||◌, List, [], get_or, length, IsTrue}
use Rattle.rail_rules.specs.Moves.{Moves}
use Rattle.rail_rules.specs.Places.{after, is_inside, is_legal, place_of}
use Rattle.rail_rules.specs.Analysis.{is_safe}
use Rattle.rail_sets.specs.declared.train_set.TrainSet.{TrainSet}
use Rattle.rail_sets.specs.TrainSets.{has_train}
use Rattle.rail_consequence.specs.Cores.{IsCore}

-- for each train the core of its last search that failed, and the trains of which the failure is kept
pub record Failed : Type 0 where
  pub cores : List TrainSet
  pub kept : TrainSet

-- what stands for the core of a train that the table doesn't have
abbrev pub no_core : TrainSet
no_core = record { words = [] }

-- the core of the train
abbrev pub core_at : Failed → ℕ → TrainSet
core_at failed t = get_or failed.cores t no_core

-- the failure of the train is kept
abbrev pub is_kept : Failed → ℕ → Bool
is_kept failed t = has_train failed.kept t

-- the train that moved is this one, or one of its core
abbrev pub is_touched : Failed → ℕ → ℕ → Bool
is_touched failed moved t = t == moved || has_train (core_at failed t) moved

-- each failure that is kept is one: the core bars what the next move of its train would lead to
abbrev pub AreFailures : Moves → ℕ → List ℕ → Failed → Type 0
AreFailures plan depth s failed = (t : ℕ) → t < length s → is_kept failed t ≡ true → IsCore plan depth (after s t) (has_train (core_at failed t))

-- of each train that the move doesn't touch it stays whether its failure is kept, and with which core
abbrev pub AreOthersKept : ℕ → Failed → Failed → Type 0
AreOthersKept moved old new = (t : ℕ) → is_touched old moved t ≡ false → (is_kept new t ≡ is_kept old t) × (core_at new t ≡ core_at old t)

-- the next move of the train is a safe leg: the train is inside, the move is legal, and no other train inside needs later what the train then stands on
abbrev pub is_safe_move : Moves → List ℕ → ℕ → Bool
is_safe_move plan s t = is_inside plan s t && is_legal plan s t && is_safe plan s (record { train = t; place = suc (place_of s t) })

-- a core of which the train that moves is one lasts for the waiting one: the move is a safe leg before the next move of the waiting train, and behind it
abbrev pub is_core_kept : Moves → List ℕ → ℕ → ℕ → Bool
is_core_kept plan s moved waiting = is_safe_move plan s moved && is_safe_move plan (after s waiting) moved

-- the failure of the train is forgotten: the train itself moved, or one of its core, and the core doesn't last
abbrev pub is_forgotten : Moves → List ℕ → Failed → ℕ → ℕ → Bool
is_forgotten plan s failed moved t = t == moved || (has_train (core_at failed t) moved && not (is_core_kept plan s moved t))

-- from the places the train made its next move, which was legal, and came to these ones
abbrev pub HasMoved : Moves → List ℕ → ℕ → List ℕ → Type 0
HasMoved plan s moved r = (r ≡ after s moved) × IsTrue (is_legal plan s moved)

-- where it moved, the failures are kept but those that are forgotten
abbrev pub AreKept : Moves → ℕ → List ℕ → Failed → Failed → Type 0
AreKept plan moved r old new = (s : List ℕ) → HasMoved plan s moved r → (t : ℕ) → is_kept new t ≡ (is_kept old t && not (is_forgotten plan s old moved t))

-- where it moved, the answer is whether its move was a safe leg
abbrev pub TellsSafe : Moves → ℕ → List ℕ → Bool → Type 0
TellsSafe plan moved r answer = (s : List ℕ) → HasMoved plan s moved r → answer ≡ is_safe_move plan s moved

-- where it moved, the answer is whether a core of which it is one lasts for the waiting train
abbrev pub TellsKept : Moves → ℕ → ℕ → List ℕ → Bool → Type 0
TellsKept plan moved waiting r answer = (s : List ℕ) → HasMoved plan s moved r → answer ≡ is_core_kept plan s moved waiting
