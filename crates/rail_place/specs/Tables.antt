-- A table of moves: for each train the sections that each move claims, its overlap, and where the train stands after it.
use Rattle.std.specs.Prelude.{◌≡◌, ℕ, ◌+◌, ◌-◌, ◌<◌, ◌≤◌, List, [], ◌∷◌, ◌++◌, length, get_or, take, IsTrue}
use Rattle.rail_base.specs.declared.limits.TheConstants.{ITINERARY_ROUTES, OVERLAP_SECTIONS, ROUTE_SECTIONS, SECTIONS, TRAINS}
use Rattle.rail_rules.specs.Numbers.{is_in}
use Rattle.rail_rules.specs.Moves.{Moves, is_valid}

-- the lists of one train: the sections that each move claims, those of them that are its overlap, and where it stands after each
pub record MoveLists : Type 0 where
  pub claims : List (List ℕ)
  pub overs : List (List ℕ)
  pub stands : List (List ℕ)

-- what stands for a train that the table doesn't have
abbrev pub no_lists : MoveLists
no_lists = record { claims = []; overs = []; stands = [] }

-- the claims of moves: the sections that each needs, and then those of its overlap
abbrev pub joined : List (List ℕ) → List (List ℕ) → List (List ℕ)
joined [] overs = []
joined (need ∷ needs) [] = need ∷ needs
joined (need ∷ needs) (over ∷ overs) = (need ++ over) ∷ joined needs overs

-- the lists of a train whose moves claim these sections, have these overlaps, and lead to these standing sets
abbrev pub row_lists : List (List ℕ) → List (List ℕ) → List (List ℕ) → MoveLists
row_lists claims overs stands = record { claims = claims; overs = overs; stands = stands }

-- the lists of a train whose moves need these sections, have these overlaps, and lead to these standing sets
abbrev pub lists_of : List (List ℕ) → List (List ℕ) → List (List ℕ) → MoveLists
lists_of needs overs stands = row_lists (joined needs overs) overs stands

-- the overlap of a move
abbrev pub over_of : List MoveLists → ℕ → ℕ → List ℕ
over_of table t m = get_or (get_or table t no_lists).overs m []

-- the list ends with the other one
abbrev pub EndsWith : List ℕ → List ℕ → Type 0
EndsWith xs end = xs ≡ take (length xs - length end) xs ++ end

-- each claim ends with the overlap of its move
pub record EndWith (claims overs : List (List ℕ)) : Type 0 where
  pub wide : length overs ≡ length claims
  pub fits : (m : ℕ) → length (get_or overs m []) ≤ length (get_or claims m [])
  pub ends : (m : ℕ) → EndsWith (get_or claims m []) (get_or overs m [])

-- the moves that the table spells
abbrev pub moves_in : List MoveLists → Moves
moves_in table = record {
  trains = length table;
  moves = λ t. length (get_or table t no_lists).claims;
  claim = λ t m. get_or (get_or table t no_lists).claims m [];
  standing = λ t m. get_or (get_or table t no_lists).stands m [];
}

-- a table within the limits whose moves are valid
pub record IsTable (table : List MoveLists) : Type 0 where
  pub valid : IsTrue (is_valid (moves_in table))
  pub few : length table ≤ TRAINS
  pub short : (t : ℕ) → (moves_in table).moves t ≤ ITINERARY_ROUTES
  pub narrow : (t m : ℕ) → length ((moves_in table).claim t m) ≤ ROUTE_SECTIONS + OVERLAP_SECTIONS
  pub in_range : (t m x : ℕ) → IsTrue (is_in x ((moves_in table).claim t m)) → x < SECTIONS

-- each of the first so many trains has its first one: no later train, with the same moves
pub record AreFirsts (table : List MoveLists) (firsts : List ℕ) : Type 0 where
  pub known : length firsts ≤ length table
  pub before : (t : ℕ) → t < length firsts → get_or firsts t 0 ≤ t
  pub same : (t : ℕ) → t < length firsts → get_or table (get_or firsts t 0) no_lists ≡ get_or table t no_lists
