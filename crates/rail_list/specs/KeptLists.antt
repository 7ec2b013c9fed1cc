-- The kept list and its room.
use Rattle.std.specs.Prelude.{◌≡◌, ℕ, zero, suc, ◌-◌, ◌==◌, Bool, true, ◌&&◌, cond, ◌<◌, ◌≤◌, List, [], ◌∷◌, ◌++◌, length, replicate, drop, get_or}
use Rattle.rail_rules.specs.Numbers.{sum_below, are_apart}
use Rattle.rail_rules.specs.Moves.{Moves}
use Rattle.rail_place.specs.Tables.{moves_in, MoveLists}
use Rattle.rail_consequence.specs.Needs.{times}

-- the trains that move, in this order, for how many entries memory was taken, and how many looks at its runs there were
pub record Kept : Type 0 where
  pub trains : List ℕ
  pub room : ℕ
  pub looked : ℕ

-- the kept list was made for these moves: there is room for each move of each train
abbrev pub HasRoomFor : List MoveLists → Kept → Type 0
HasRoomFor table kept = sum_below (moves_in table).moves (length table) ≤ kept.room

-- the entries before the first of the train, all of them where it has none
abbrev pub before_first : ℕ → List ℕ → List ℕ
before_first t [] = []
before_first t (u ∷ rest) = cond (u == t) [] (u ∷ before_first t rest)

-- the list with the moves that an entering train has left after its first one at the end
abbrev pub with_moves_left : Moves → ℕ → List ℕ → List ℕ
with_moves_left plan t list = list ++ replicate (plan.moves t - 1) t

-- no entry before the first of the train needs one of the sections for its move, where the list has an entry for each move that its trains have left
abbrev pub is_free_before : Moves → ℕ → List ℕ → List ℕ → Bool
is_free_before plan t sections [] = true
is_free_before plan t sections (u ∷ rest) =
    let later = is_free_before plan t sections rest in
    cond (u == t) true (are_apart sections (plan.claim u (plan.moves u - suc (times u rest))) && later)

-- how many entries of the train stand side by side at the start of the list
abbrev pub entries_at_start : ℕ → List ℕ → ℕ
entries_at_start t [] = 0
entries_at_start t (u ∷ rest) = cond (u == t) (suc (entries_at_start t rest)) 0

-- from each entry on at least so many entries of its train stand side by side, itself among them
abbrev pub AreRuns : List ℕ → List ℕ → Type 0
AreRuns list counts = (i : ℕ) → i < length list
    → (1 ≤ get_or counts i 0) × (get_or counts i 0 ≤ entries_at_start (get_or list i 0) (drop i list))

-- the counts for a run of so many entries: the first tells of all, each other one of itself
abbrev pub counts_of_run : ℕ → List ℕ
counts_of_run zero = []
counts_of_run (suc n) = suc n ∷ replicate n 1

-- the list begins at the front, with the runs of its entries beside it, and memory was taken for so many entries and for no more
pub record IsKeptIn (trains counts : List ℕ) (front room taken taken_counts : ℕ) : Type 0 where
  pub within : front ≤ length trains
  pub beside : length counts ≡ length trains
  pub runs : AreRuns (drop front trains) (drop front counts)
  pub full : taken ≡ room
  pub full_counts : taken_counts ≡ room
