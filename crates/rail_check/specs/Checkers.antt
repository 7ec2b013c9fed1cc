-- What is kept of a history that is checked, and the lines for which it stands.
use Rattle.std.specs.Prelude.{◌≡◌, ℕ, suc, List, [], ◌∷◌, ◌++◌, length}
use Rattle.rail_base.specs.declared.refusals.Fault.{Fault}
use Rattle.rail_check.specs.Answers.{judged_in}
use Rattle.rail_check.specs.declared.checker.Checker.{Checker}
use Rattle.rail_check.specs.declared.verdict.Verdict.{Verdict}
use Rattle.rail_history.specs.HistoryLines.{IsHistory, IsRefusedIn}
use Rattle.rail_history.specs.ReadFiles.{IsReadTo}
use Rattle.rail_history.specs.declared.file_lines.FileLines.{FileLines}
use Rattle.rail_laws_verdict.specs.Verdicts.{verdict, verdict_behind}
use Rattle.rail_ledger.specs.Inputs.{input_in}
use Rattle.rail_ledger.specs.Ledgers.{IsAt, IsSomewhereWith}
use Rattle.rail_ledger.specs.declared.input.RunInput.{RunInput}
use Rattle.rail_rules.specs.Fronts.{Front, Line, has_held}

-- these lines of a history of the input were checked, and all may follow
pub record IsChecked (input : RunInput) (lines : List Line) (checker : Checker) : Type 0 where
  pub front : Front
  pub at : IsAt front checker.ledger
  pub input_is : checker.ledger.input ≡ input
  pub after_hold_is : checker.after_hold ≡ has_held front
  pub counted : checker.lines ≡ length lines
  pub same : (rest : List Line) → verdict_behind (input_in input) front (suc checker.lines) rest ≡ verdict (input_in input) (lines ++ rest)

-- some lines were checked
abbrev pub IsChecking : Checker → Type 0
IsChecking checker = IsSomewhereWith checker.after_hold checker.ledger

-- the line may follow those that were checked, and is checked with them
abbrev pub ChecksLine : Checker → Checker → Line → Type 0
ChecksLine old new line = (input : RunInput) (lines : List Line) → IsChecked input lines old → IsChecked input (lines ++ line ∷ []) new

-- behind the lines that were checked this line decides, whatever is behind it
abbrev pub IsDecidedAt : Checker → Line → Verdict → Type 0
IsDecidedAt checker line answer = (input : RunInput) (lines rest : List Line) → IsChecked input lines checker
    → judged_in answer ≡ verdict (input_in input) (lines ++ line ∷ rest)

-- no line is behind those that were checked, and this is the verdict on them
abbrev pub IsEndedWith : Checker → Verdict → Type 0
IsEndedWith checker answer = (input : RunInput) (lines : List Line) → IsChecked input lines checker → judged_in answer ≡ verdict (input_in input) lines

-- the lines that were read of a file of these bytes were checked
pub record IsFollowed (input : RunInput) (bytes : List ℕ) (checker : Checker) (file : FileLines) : Type 0 where
  pub lines : List Line
  pub read : IsReadTo input.plant bytes lines file
  pub checked : IsChecked input lines checker

-- the lines that were read of some file were checked
pub record IsFollowing (checker : Checker) (file : FileLines) : Type 0 where
  pub input : RunInput
  pub bytes : List ℕ
  pub is : IsFollowed input bytes checker file

-- what was read meanwhile was checked too
abbrev pub KeepsUp : Checker → FileLines → Checker → FileLines → Type 0
KeepsUp checker file new left = (input : RunInput) (bytes : List ℕ) → IsFollowed input bytes checker file → IsFollowed input bytes new left

-- the bytes are the text of lines that were checked
pub record IsWhole (input : RunInput) (bytes : List ℕ) (checker : Checker) : Type 0 where
  pub lines : List Line
  pub is_history : IsHistory input.plant bytes lines
  pub checked : IsChecked input lines checker

-- all lines of the file were read and checked
abbrev pub ReachesEnd : Checker → FileLines → Checker → Type 0
ReachesEnd checker file new = (input : RunInput) (bytes : List ℕ) → IsFollowed input bytes checker file → IsWhole input bytes new

-- the lines that were read of a file of these bytes decide, whatever is behind them
pub record IsDecided (input : RunInput) (bytes : List ℕ) (left : FileLines) (answer : Verdict) : Type 0 where
  pub lines : List Line
  pub read : IsReadTo input.plant bytes lines left
  pub same : (rest : List Line) → judged_in answer ≡ verdict (input_in input) (lines ++ rest)

-- what was read meanwhile decides
abbrev pub Decides : Checker → FileLines → FileLines → Verdict → Type 0
Decides checker file left answer = (input : RunInput) (bytes : List ℕ) → IsFollowed input bytes checker file → IsDecided input bytes left answer

-- what is left of the file refuses it
abbrev pub Refuses : Checker → FileLines → Fault → Type 0
Refuses checker file fault = (input : RunInput) (bytes : List ℕ) → IsFollowed input bytes checker file → IsRefusedIn input.plant bytes fault
