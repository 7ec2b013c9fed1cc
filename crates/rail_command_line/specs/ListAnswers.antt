-- What the reading of a list file answers, line by line.
use Rattle.std.specs.Prelude.{◌≡◌, ◌≢◌, ◌⊎◌, ℕ, ◌<◌, ◌≤◌, ◌^◌, ◌++◌, Bool, List, [], ◌∷◌, cond, length, get_or, map, set, Option, Some, None, true, false}
use Rattle.std.specs.List.{All, list_all}
use Rattle.rail_base.specs.FirstRefusals.{first_failing}
use Rattle.rail_base.specs.declared.refusals.Fault.{Fault}
use Rattle.rail_base.specs.declared.refusals.Fault.TheVariants.{Refused, OutOfMemory}
use Rattle.rail_base.specs.declared.refusals.Reason.TheVariants.{ListForm, ListName}
use Rattle.rail_base.specs.declared.refusals.Refusal.{Refusal}
use Rattle.rail_rules.specs.Moves.{Moves}
use Rattle.rail_place.specs.Tables.{moves_in, MoveLists}
use Rattle.rail_text.specs.Decimals.{value_of}
use Rattle.rail_text.specs.Lines.{Line, number_of_name, refusal_at}
use Rattle.rail_command_line.specs.Lists.{Listed, asked_tests, knows, last_setting, listed_on, moves_trains, number_of_train, sets, some_moves, words_tests}

-- what is kept of the lines that were read: what they say, the last line that sets a position, and whether one moves trains
pub record ReadList : Type 0 where
  pub positions : List ℕ
  pub list : List ℕ
  pub last_at : ℕ
  pub has_moved : Bool

-- what is kept of lines
abbrev pub read_of : List (List ℕ) → ℕ → List Line → ReadList
read_of names trains lines = let said : Listed = listed_on names trains lines in record {
  positions = said.positions;
  list = said.list;
  last_at = last_setting lines;
  has_moved = some_moves lines;
}

-- what is kept after a line that sets a position
abbrev pub after_position : List (List ℕ) → ReadList → ℕ → List (List ℕ) → ReadList
after_position names read n (train ∷ number ∷ []) = record read {
  positions = set read.positions (number_of_train names train) (value_of number);
  last_at = n;
}
after_position names read n _ = read

-- what is kept after a line that moves trains
abbrev pub after_moves : List (List ℕ) → ReadList → List (List ℕ) → ReadList
after_moves names read args = record read { list = read.list ++ map (number_of_train names) args; has_moved = true }

-- what is kept after a line of this verb
abbrev pub after_asked : List (List ℕ) → ReadList → ℕ → List ℕ → List (List ℕ) → ReadList
after_asked names read n verb args =
    cond (sets verb) (after_position names read n args) (cond (moves_trains verb) (after_moves names read args) read)

-- what is kept after a line with these words
abbrev pub after_line : List (List ℕ) → ReadList → ℕ → List (List ℕ) → ReadList
after_line names read n [] = read
after_line names read n (verb ∷ args) = after_asked names read n verb args

-- why a line of this verb is refused, if it is
abbrev pub asked_refusal : List (List ℕ) → Moves → Bool → ReadList → ℕ → List ℕ → List (List ℕ) → Option Refusal
asked_refusal names plan may_move read n verb args = first_failing (asked_tests names plan may_move read.has_moved n verb args)

-- why a line with these words is refused, if it is
abbrev pub words_refusal : List (List ℕ) → Moves → Bool → ReadList → ℕ → List (List ℕ) → Option Refusal
words_refusal names plan may_move read n words = first_failing (words_tests names plan may_move read.has_moved n words)

-- why a position is refused: no train has the name, or the one that has it makes fewer moves
abbrev pub IsRefusedPosition : List (List ℕ) → Moves → List ℕ → ℕ → ℕ → Fault → Type 0
IsRefusedPosition names plan name position n fault =
    ((number_of_name names name ≡ None) × (fault ≡ Refused (refusal_at ListName n)))
    ⊎ ((number_of_name names name ≢ None) × (plan.moves (number_of_train names name) < position)
    × (fault ≡ Refused (refusal_at ListForm n)))

-- why moves are refused: a name is that of no train; or memory is wanting
abbrev pub IsRefusedMoves : List (List ℕ) → List (List ℕ) → ℕ → Fault → Type 0
IsRefusedMoves names args n fault =
    (fault ≡ OutOfMemory) ⊎ ((list_all (knows names) args ≡ false) × (fault ≡ Refused (refusal_at ListName n)))

-- the train of this name is known, and has at least so many moves, which are few
pub record IsPosition (names : List (List ℕ)) (plan : Moves) (name : List ℕ) (position : ℕ) : Type 0 where
  pub known : number_of_name names name ≡ Some (number_of_train names name)
  pub within : position ≤ plan.moves (number_of_train names name)
  pub small : position < 2 ^ 16

-- there is a position of each train, within its moves, and only trains that there are are to be moved
pub record IsListFor (table : List MoveLists) (read : ReadList) : Type 0 where
  pub long : length read.positions ≡ length table
  pub within : (t : ℕ) → t < length table → get_or read.positions t 0 ≤ (moves_in table).moves t
  pub trains : All (λ t. t < length table) read.list
