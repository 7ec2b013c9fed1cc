-- Lines and words of the files that are read line by line.
use Rattle.std.specs.Prelude.{ℕ, ◌+◌, ◌==◌, Bool, true, not, cond, List, [], ◌∷◌, length, get_or, filter, Option, position}
use Rattle.std.specs.List.{slice_split}
use Rattle.std.specs.Str.Lines.{lines}
use Rattle.rail_base.specs.NameForms.{same_name}
use Rattle.rail_base.specs.FirstRefusals.{Test}
use Rattle.rail_base.specs.declared.refusals.Refusal.{Refusal}
use Rattle.rail_base.specs.declared.refusals.Reason.{Reason}
use Rattle.rail_base.specs.declared.refusals.Part.TheVariants as part

-- the words of a line, which stand between spaces
abbrev pub words : List ℕ → List (List ℕ)
words line = filter (λ word. not (length word == 0)) (slice_split (λ b. b == 32) line)

-- a word that begins with `#` begins a comment
abbrev pub is_comment : List ℕ → Bool
is_comment word = get_or word 0 0 == 35

-- a line without a word, or with a comment alone, is skipped
abbrev pub is_skipped : List (List ℕ) → Bool
is_skipped [] = true
is_skipped (word ∷ words) = is_comment word

-- a line that is not skipped: its number among all lines, and its words
pub record Line : Type 0 where
  pub number : ℕ
  pub words : List (List ℕ)

-- the line of this number
abbrev pub line_at : ℕ → List ℕ → Line
line_at n line = record { number = n; words = words line }

-- those of the lines that are not skipped; the first line has the number n
abbrev pub lines_from : ℕ → List (List ℕ) → List Line
lines_from n [] = []
lines_from n (line ∷ lines) = cond (is_skipped (words line)) (lines_from (n + 1) lines) (line_at n line ∷ lines_from (n + 1) lines)

-- the lines of a file that are not skipped, counted from 1 with those that are
abbrev pub lines_of : List ℕ → List Line
lines_of bytes = lines_from 1 (lines bytes)

-- a refusal of a line for this reason
abbrev pub refusal_at : Reason → ℕ → Refusal
refusal_at reason n = record { reason = reason; part = part.Line; item = n; step = 0 }

-- a line is refused for this reason, wherever the last argument is true
abbrev pub refused_line : Reason → ℕ → Bool → Test Refusal
refused_line reason n fails = record { answer = refusal_at reason n; fails = fails }

-- the number of the one of this name, among names in the order of their numbers
abbrev pub number_of_name : List (List ℕ) → List ℕ → Option ℕ
number_of_name names name = position (same_name name) names
