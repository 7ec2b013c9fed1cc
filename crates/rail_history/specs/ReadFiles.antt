-- Files whose lines are read one by one.
use Rattle.std.specs.Prelude.{◌≡◌, ℕ, ◌+◌, ◌-◌, ◌<◌, ◌≤◌, ◌^◌, true, List, [], ◌∷◌, ◌++◌, count_by, length}
use Rattle.std.specs.List.{list_all}
use Rattle.rail_base.specs.Limits.{most, FreshLines}
use Rattle.rail_base.specs.declared.names.Names.{Names}
use Rattle.rail_base.specs.declared.refusals.Fault.{Fault}
use Rattle.rail_base.specs.declared.refusals.Fault.TheVariants.{Refused, OutOfMemory}
use Rattle.rail_base.specs.declared.refusals.Reason.TheVariants.{HistoryForm}
use Rattle.rail_rules.specs.Fronts.{Line}
use Rattle.rail_rules.specs.Plant.{Plant}
use Rattle.rail_rules.specs.WritableLines.{IsNamed}
use Rattle.rail_text.specs.Lines.{refusal_at}
use Rattle.rail_text.specs.Names.{HasNames}
use Rattle.rail_history.specs.declared.file_lines.FileLines.{FileLines}
use Rattle.rail_history.specs.HistoryLines.{IsFirstWrong, is_fresh, is_history_line, lines_text}

-- what is left of the file
abbrev pub text_left : FileLines → List ℕ
text_left file = file.text.now

-- how many lines were read
abbrev pub lines_read : FileLines → ℕ
lines_read file = file.number

-- how many of them have a fresh list
abbrev pub fresh_read : FileLines → ℕ
fresh_read file = file.fresh

-- the bytes begin with the text of these lines of the file, and this is what is left of them
pub record IsFront (plant : Plant) (bytes : List ℕ) (lines : List Line) (rest : List ℕ) : Type 0 where
  pub each : list_all (is_history_line plant) lines ≡ true
  pub whole : bytes ≡ lines_text plant lines ++ rest

-- of a file of these bytes these lines were read
pub record IsReadTo (plant : Plant) (bytes : List ℕ) (lines : List Line) (file : FileLines) : Type 0 where
  pub front : IsFront plant bytes lines (text_left file)
  pub counted : fresh_read file ≡ count_by (λ (line : Line). is_fresh line.entry.what) lines
  pub few : fresh_read file ≤ most FreshLines
  pub numbered : lines_read file ≡ length lines
  pub short : lines_read file + length (text_left file) ≤ length bytes

-- one line more was read, this one
abbrev pub GoesOn : Plant → FileLines → FileLines → Line → Type 0
GoesOn plant old new line = (bytes : List ℕ) (lines : List Line) → IsReadTo plant bytes lines old → IsReadTo plant bytes (lines ++ line ∷ []) new

-- the lines of the file can be numbered, and no more of those that were read have a fresh list than may
pub record IsReading (file : FileLines) : Type 0 where
  pub short : lines_read file + length (text_left file) < 2 ^ 32 - 1
  pub few : fresh_read file ≤ most FreshLines

-- behind the lines that were read a line is none, and the fault names it, unless memory was not found
abbrev pub IsRefusedBehind : Names → FileLines → Fault → Type 0
IsRefusedBehind names file (Refused refusal) = (refusal ≡ refusal_at HistoryForm refusal.item)
    × ((plant : Plant) → HasNames plant names → IsNamed plant → (bytes : List ℕ) (lines : List Line) → IsReadTo plant bytes lines file → IsFirstWrong plant bytes refusal.item)
IsRefusedBehind names file OutOfMemory = Unit {0}
