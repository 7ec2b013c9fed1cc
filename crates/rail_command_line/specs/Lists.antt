-- List files: where the trains stand, and the moves to be made.
use Rattle.std.specs.Prelude.{ℕ, ◌==◌, Bool, false, not, ◌&&◌, ◌||◌, cond, nat_lt, is_some, List, [], ◌∷◌, ◌++◌, length, take, fold, set, map, replicate, codes, Option, unwrap_or}
use Rattle.std.specs.List.{flat_map, list_all, list_any}
use Rattle.rail_base.specs.FirstRefusals.{Test, first_failing}
use Rattle.rail_base.specs.NameForms.{is_name}
use Rattle.rail_base.specs.declared.refusals.Refusal.{Refusal}
use Rattle.rail_base.specs.declared.refusals.Reason.TheVariants.{ListForm, ListName, ListPlaces}
use Rattle.rail_text.specs.Decimals.{is_decimal, value_of}
use Rattle.rail_text.specs.Lines.{Line, lines_of, number_of_name, refused_line}
use Rattle.rail_rules.specs.Moves.{Moves}
use Rattle.rail_rules.specs.Numbers.{same_numbers}
use Rattle.rail_rules.specs.Places.{is_valid_state}

-- the number of the train of this name, which is known
abbrev pub number_of_train : List (List ℕ) → List ℕ → ℕ
number_of_train names name = unwrap_or (number_of_name names name) 0

-- a train has this name
abbrev pub knows : List (List ℕ) → List ℕ → Bool
knows names name = is_some (number_of_name names name)

-- the verb of a line that sets a position
abbrev pub sets : List ℕ → Bool
sets verb = same_numbers verb (codes "at")

-- the verb of a line that moves trains
abbrev pub moves_trains : List ℕ → Bool
moves_trains verb = same_numbers verb (codes "move")

-- a line with these words sets a position: `at TRAIN POSITION`
abbrev pub is_setting : List (List ℕ) → Bool
is_setting (verb ∷ train ∷ number ∷ []) = sets verb
is_setting _ = false

-- a line with these words moves trains: `move TRAIN [TRAIN ..]`
abbrev pub is_moving : List (List ℕ) → Bool
is_moving [] = false
is_moving (verb ∷ trains) = moves_trains verb

-- the positions after a line with these words
abbrev pub with_position : List (List ℕ) → List ℕ → List (List ℕ) → List ℕ
with_position names positions (verb ∷ train ∷ number ∷ []) =
    cond (sets verb) (set positions (number_of_train names train) (value_of number)) positions
with_position names positions _ = positions

-- the trains that a line with these words moves
abbrev pub moved : List (List ℕ) → List (List ℕ) → List ℕ
moved names [] = []
moved names (verb ∷ trains) = cond (moves_trains verb) (map (number_of_train names) trains) []

-- what a list file says: the position of each train, and the trains to be moved in order
pub record Listed : Type 0 where
  pub positions : List ℕ
  pub list : List ℕ

-- what lines say, line by line: before the first one all trains are outside, and of several positions of a train the last counts
abbrev pub listed_on : List (List ℕ) → ℕ → List Line → Listed
listed_on names trains lines = record {
  positions = fold (λ positions (line : Line). with_position names positions line.words) (replicate trains 0) lines;
  list = flat_map (λ (line : Line). moved names line.words) lines;
}

-- what a list file says, for trains of these names
abbrev pub listed_in : List (List ℕ) → ℕ → List ℕ → Listed
listed_in names trains bytes = listed_on names trains (lines_of bytes)

-- some line moves trains
abbrev pub some_moves : List Line → Bool
some_moves lines = list_any (λ (line : Line). is_moving line.words) lines

-- the number of the last line that sets a position, 0 where there is none
abbrev pub last_setting : List Line → ℕ
last_setting lines = fold (λ n (line : Line). cond (is_setting line.words) line.number n) 0 lines

-- a train and a number
abbrev pub is_position : List (List ℕ) → Bool
is_position (train ∷ number ∷ []) = is_name train && is_decimal number
is_position _ = false

-- a line is `at TRAIN POSITION`, unless a line before it moves trains, or `move TRAIN [TRAIN ..]`, where lines may move trains
abbrev pub has_form : Bool → Bool → List ℕ → List (List ℕ) → Bool
has_form may_move has_moved verb args =
    (sets verb && not has_moved && is_position args)
    || (may_move && moves_trains verb && not (length args == 0) && list_all is_name args)

-- the trains that a line names
abbrev pub trains_named : List ℕ → List (List ℕ) → List (List ℕ)
trains_named verb args = cond (sets verb) (take 1 args) args

-- the position is above the train's number of moves
abbrev pub is_past : List (List ℕ) → Moves → List ℕ → List (List ℕ) → Bool
is_past names plan verb (train ∷ number ∷ []) = sets verb && nat_lt (plan.moves (number_of_train names train)) (value_of number)
is_past names plan verb _ = false

-- the tests of a line of this number, verb and words, in their order
abbrev pub asked_tests : List (List ℕ) → Moves → Bool → Bool → ℕ → List ℕ → List (List ℕ) → List (Test Refusal)
asked_tests names plan may_move has_moved n verb args =
    refused_line ListForm n (not (has_form may_move has_moved verb args))
    ∷ refused_line ListName n (not (list_all (knows names) (trains_named verb args)))
    ∷ refused_line ListForm n (is_past names plan verb args)
    ∷ []

-- the tests of a line of this number and words
abbrev pub words_tests : List (List ℕ) → Moves → Bool → Bool → ℕ → List (List ℕ) → List (Test Refusal)
words_tests names plan may_move has_moved n [] = []
words_tests names plan may_move has_moved n (verb ∷ args) = asked_tests names plan may_move has_moved n verb args

-- the tests of a line behind other lines
abbrev pub line_tests : List (List ℕ) → Moves → Bool → List Line → Line → List (Test Refusal)
line_tests names plan may_move before line = words_tests names plan may_move (some_moves before) line.number line.words

-- the tests of lines behind other lines
abbrev pub lines_tests : List (List ℕ) → Moves → Bool → List Line → List Line → List (Test Refusal)
lines_tests names plan may_move before [] = []
lines_tests names plan may_move before (line ∷ lines) = line_tests names plan may_move before line ++ lines_tests names plan may_move (before ++ line ∷ []) lines

-- why the lines of a list file are refused
abbrev pub list_line_refusal : List (List ℕ) → Moves → Bool → List ℕ → Option Refusal
list_line_refusal names plan may_move bytes = first_failing (lines_tests names plan may_move [] (lines_of bytes))

-- two trains hold one section, which is refused at the last line that sets a position
abbrev pub places_test : List (List ℕ) → Moves → ℕ → List ℕ → Test Refusal
places_test names plan trains bytes =
    refused_line ListPlaces (last_setting (lines_of bytes)) (not (is_valid_state plan (listed_in names trains bytes).positions))
