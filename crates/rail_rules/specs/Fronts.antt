-- Fronts: the lines of a history so far.
use Rattle.std.specs.Prelude.{ℕ, ◌+◌, ◌-◌, ◌==◌, Bool, true, false, ◌&&◌, cond, List, [], ◌∷◌, ◌++◌, length, replicate, take, Option, Some, None}
use Rattle.std.specs.List.{list_any}
use Rattle.rail_base.specs.declared.history.Entry.{Entry}
use Rattle.rail_base.specs.declared.history.What.{What}
use Rattle.rail_base.specs.declared.history.What.TheVariants.{Free, Arrive, Enter, Out, Ready, Told, Untold, Admit, Hold, End}
use Rattle.rail_base.specs.declared.history.Note.{Note}
use Rattle.rail_base.specs.declared.history.Note.TheVariants.{Pulled, Appended, Fresh}
use Rattle.rail_base.specs.declared.history.Cause.{Cause}
use Rattle.rail_base.specs.declared.history.Cause.TheVariants.{Stopped, Closed, Blocked, NoList}
use Rattle.rail_rules.specs.Numbers.{listed, same_numbers}
use Rattle.rail_rules.specs.Plant.{Plant, trains, moves}

-- a line: its entry, and the trains of a fresh list or those that an end line names
pub record Line : Type 0 where
  pub entry : Entry
  pub trains : List ℕ

-- the lines so far, the newest first
abbrev pub Front : Type 0
Front = List Line

-- an entry that stands at a time
abbrev pub at_time : ℕ → What → Entry
at_time time what = record { at = time; what = what }

-- the instant of a front: the time of its last line
abbrev pub instant : Front → ℕ
instant [] = 0
instant (line ∷ before) = line.entry.at

-- the line is an end line
abbrev pub is_end : What → Bool
is_end End = true
is_end _ = false

-- the last line is the end line
abbrev pub has_ended : Front → Bool
has_ended [] = false
has_ended (line ∷ before) = is_end line.entry.what

-- the line is a hold line
abbrev pub is_hold : What → Bool
is_hold (Hold t m cause) = true
is_hold _ = false

-- the last line is a hold line
abbrev pub has_held : Front → Bool
has_held [] = false
has_held (line ∷ before) = is_hold line.entry.what

-- how many lines of a front aren't hold lines
abbrev pub lines_beside_holds : Front → ℕ
lines_beside_holds [] = 0
lines_beside_holds (line ∷ before) = cond (is_hold line.entry.what) 0 1 + lines_beside_holds before

-- the line is an admission
abbrev pub is_admission : What → Bool
is_admission (Admit t m note) = true
is_admission _ = false

-- the line admits a move of this train
abbrev pub admits : ℕ → What → Bool
admits t (Admit u m note) = u == t
admits t _ = false

-- the times of the train's admissions, the first one first
abbrev pub admissions : Front → ℕ → List ℕ
admissions [] t = []
admissions (line ∷ before) t = cond (admits t line.entry.what) (admissions before t ++ line.entry.at ∷ []) (admissions before t)

-- the place of each train: the number of its admissions
abbrev pub places : Plant → Front → List ℕ
places plant front = listed (λ t. length (admissions front t)) (trains plant)

-- the list without the first occurrence of the train
abbrev pub without_first : ℕ → List ℕ → List ℕ
without_first t [] = []
without_first t (u ∷ rest) = cond (u == t) rest (u ∷ without_first t rest)

-- the list with the remaining moves of an entering train at its end
abbrev pub with_rest_of : Plant → ℕ → List ℕ → List ℕ
with_rest_of plant t list = list ++ replicate (moves plant t - 1) t

-- the kept list after a line: an admission pulls the train, appends its moves, or brings a list of its own
abbrev pub kept_after : Plant → List ℕ → Line → What → List ℕ
kept_after plant list line (Admit t m Pulled) = without_first t list
kept_after plant list line (Admit t m Appended) = with_rest_of plant t list
kept_after plant list line (Admit t m Fresh) = line.trains
kept_after plant list line _ = list

-- the kept list of a front
abbrev pub kept : Plant → Front → List ℕ
kept plant [] = []
kept plant (line ∷ before) = kept_after plant (kept plant before) line line.entry.what

-- a cause as numbers
abbrev pub cause_code : Cause → List ℕ
cause_code Stopped = 0 ∷ []
cause_code (Closed x) = 1 ∷ x ∷ []
cause_code (Blocked x u) = 2 ∷ x ∷ u ∷ []
cause_code NoList = 3 ∷ []

-- a cause, or none, as numbers
abbrev pub option_code : Option Cause → List ℕ
option_code None = []
option_code (Some cause) = cause_code cause

-- the two are one cause, or both are absent
abbrev pub same_cause : Option Cause → Option Cause → Bool
same_cause a b = same_numbers (option_code a) (option_code b)

-- the cause on a hold line of this move
abbrev pub hold_of : ℕ → ℕ → What → Option Cause
hold_of t m (Hold u n cause) = cond ((u == t) && (n == m)) (Some cause) None
hold_of t m _ = None

-- a note as a number
abbrev pub note_code : Note → ℕ
note_code Pulled = 0
note_code Appended = 1
note_code Fresh = 2

-- what a line says, as numbers: its class, which orders the lines of an instant, its number in the class, and the rest
abbrev pub code_of : What → List ℕ
code_of (Free x t) = 0 ∷ x ∷ t ∷ []
code_of (Arrive t m) = 1 ∷ t ∷ m ∷ []
code_of (Enter t m x) = 2 ∷ t ∷ m ∷ x ∷ []
code_of (Out t) = 3 ∷ t ∷ []
code_of (Ready t m) = 4 ∷ t ∷ m ∷ []
code_of (Told k) = 5 ∷ k ∷ 0 ∷ []
code_of (Untold k) = 5 ∷ k ∷ 1 ∷ []
code_of (Admit t m note) = 6 ∷ t ∷ m ∷ note_code note ∷ []
code_of (Hold t m cause) = 7 ∷ t ∷ m ∷ cause_code cause
code_of End = 8 ∷ []

-- the order of the event lines: by time, then class, then number
abbrev pub rank : Entry → List ℕ
rank e = e.at ∷ take 2 (code_of e.what)

-- the two entries are one
abbrev pub same_entry : Entry → Entry → Bool
same_entry a b = (a.at == b.at) && same_numbers (code_of a.what) (code_of b.what)

-- the entry stands in the front, with its time
abbrev pub stands : Front → Entry → Bool
stands front e = list_any (λ (line : Line). same_entry e line.entry) front
