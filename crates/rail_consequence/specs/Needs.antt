-- For how many trains each section is needed by moves that they have left, and what each train needs as sets.
use Rattle.std.specs.Prelude.{◌≡◌, ◌≢◌, ℕ, ◌+◌, ◌*◌, ◌<◌, ◌≤◌, ◌==◌, Bool, ◌&&◌, nat_lt, nat_le, List, [], length, get_or, set, max, count_by, IsTrue}
use Rattle.rail_base.specs.declared.limits.TheConstants.{SECTIONS, TRAINS}
use Rattle.rail_rules.specs.Numbers.{any_below, is_in, sum_below}
use Rattle.rail_rules.specs.Moves.{Moves, stand}
use Rattle.rail_sets.specs.Sets.{has}
use Rattle.rail_sets.specs.declared.sets.TheConstants.{WORDS}
use Rattle.rail_sets.specs.Counts.{Columns}
pub use Rattle.rail_sets.specs.Counts.{count_of, one_if}
use Rattle.rail_consequence.specs.declared.rows.PlaceSets.{PlaceSets}
use Rattle.rail_rules.specs.Places.{place_of}

-- how often the number stands in the list
abbrev pub times : ℕ → List ℕ → ℕ
times x xs = count_by (λ y. y == x) xs

-- the train needs the section for the move from the place, or for a later one
abbrev pub needs_from : Moves → ℕ → ℕ → ℕ → Bool
needs_from plan t place x = any_below (λ m. nat_le place m && is_in x (plan.claim t m)) (plan.moves t)

-- the train at the place has entered, and needs the section for a move that it has left
abbrev pub needs_left : Moves → ℕ → ℕ → ℕ → Bool
needs_left plan t place x = nat_lt 0 place && needs_from plan t place x

-- for each section those trains are counted that have entered in the state, and need it for a move that they have left
abbrev pub IsCounted : Moves → List ℕ → Columns → Type 0
IsCounted plan s counts = (x : ℕ)
    → count_of counts x ≡ sum_below (λ t. one_if (needs_left plan t (place_of s t) x)) (length s)

-- behind the first so many sections none is counted
abbrev pub IsIdleBehind : ℕ → Columns → Type 0
IsIdleBehind n counts = (x : ℕ) → n ≤ x → count_of counts x ≡ 0

-- the train is counted as at the place, beside no more others than there may be trains
pub record IsAmong (plan : Moves) (t place : ℕ) (counts : Columns) : Type 0 where
  pub some : (x : ℕ) → one_if (needs_left plan t place x) ≤ count_of counts x
  pub few : (x : ℕ) → count_of counts x ≤ TRAINS + one_if (needs_left plan t place x)

-- the train was counted as at the one place, and is counted as at the other, with all others as before
abbrev pub IsRecounted : Moves → ℕ → ℕ → ℕ → Columns → Columns → Type 0
IsRecounted plan t from to old new = (x : ℕ)
    → count_of new x + one_if (needs_left plan t from x) ≡ count_of old x + one_if (needs_left plan t to x)

-- places, and for each section how many trains are counted
pub record Placed : Type 0 where
  pub positions : List ℕ
  pub counts : Columns

-- each train has one of its places, and the trains are counted that need a section for a move that they have left there
pub record IsTallyFor (plan : Moves) (placed : Placed) : Type 0 where
  pub long : length placed.positions ≡ plan.trains
  pub within : (t : ℕ) → t < plan.trains → place_of placed.positions t ≤ plan.moves t
  pub counted : IsCounted plan placed.positions placed.counts

-- the set has exactly the sections of which this is so
abbrev pub IsSet : List ℕ → (ℕ → Bool) → Type 0
IsSet set is = (x : ℕ) → has set x ≡ is x

-- the sets are those of the train at the place
pub record IsPlaceSets (plan : Moves) (t place : ℕ) (sets : PlaceSets) : Type 0 where
  pub need : IsSet sets.need (λ x. is_in x (plan.claim t place))
  pub rest : IsSet sets.rest (needs_from plan t place)
  pub stand : IsSet sets.stand (λ x. is_in x (stand plan t place))

-- what stands for a place that a row doesn't have
abbrev pub no_sets : PlaceSets
no_sets = record { need = []; rest = []; stand = [] }

-- the row tells so many places of the train, from place 0 on
pub record IsSetRow (plan : Moves) (t n : ℕ) (row : List PlaceSets) : Type 0 where
  pub long : length row ≡ n
  pub told : (i : ℕ) → i < n → IsPlaceSets plan t i (get_or row i no_sets)

-- the rows of the trains, and how many words have all their sections
pub record SetRows : Type 0 where
  pub width : ℕ
  pub rows : List (List PlaceSets)

-- each of the first so many trains has a row that tells all its places, of whose sets the words have all sections
pub record AreRows (plan : Moves) (n : ℕ) (table : SetRows) : Type 0 where
  pub long : length table.rows ≡ n
  pub told : (t : ℕ) → t < n → IsSetRow plan t (plan.moves t + 1) (get_or table.rows t [])
  pub wide : 64 * table.width ≤ SECTIONS
  pub narrow : (t i x : ℕ) → t < n → IsTrue (is_in x (plan.claim t i)) → x < 64 * table.width

-- each train has such a row
abbrev pub IsRowsOf : Moves → SetRows → Type 0
IsRowsOf plan table = AreRows plan plan.trains table

-- the sets with this row of a train; they take as many words as those or these others
abbrev pub with_row : SetRows → ℕ → ℕ → List PlaceSets → SetRows
with_row table width t row = record { width = max table.width width; rows = set table.rows t row }

-- each train but this one has a row that tells all its places, of whose sets the words have all sections
pub record AreRowsBut (plan : Moves) (t : ℕ) (table : SetRows) : Type 0 where
  pub long : length table.rows ≡ plan.trains
  pub told : (u : ℕ) → u < plan.trains → u ≢ t → IsSetRow plan u (plan.moves u + 1) (get_or table.rows u [])
  pub wide : 64 * table.width ≤ SECTIONS
  pub narrow : (u i x : ℕ) → u < plan.trains → u ≢ t → IsTrue (is_in x (plan.claim u i)) → x < 64 * table.width

-- the first row tells all places of this train, of whose sets the words have all sections
pub record AreRowsFor (plan : Moves) (t : ℕ) (table : SetRows) : Type 0 where
  pub some : 0 < length table.rows
  pub told : IsSetRow plan t (plan.moves t + 1) (get_or table.rows 0 [])
  pub wide : 64 * table.width ≤ SECTIONS
  pub narrow : (i x : ℕ) → IsTrue (is_in x (plan.claim t i)) → x < 64 * table.width

-- so many words of a set, which it has, have all sections that the trains need
pub record AreWords (plan : Moves) (words : ℕ) : Type 0 where
  pub few : words ≤ WORDS
  pub all : (t i x : ℕ) → t < plan.trains → IsTrue (is_in x (plan.claim t i)) → x < 64 * words
