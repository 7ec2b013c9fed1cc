-- The lines of a history file, and what is read of one.
use Rattle.std.specs.Prelude.{◌≡◌, ◌≢◌, ℕ, ◌+◌, ◌≤◌, Bool, true, false, ◌&&◌, cond, nat_lt, nat_le, List, [], ◌∷◌, ◌++◌, drop, get_or, length, replicate, reverse, count_by}
use Rattle.std.specs.List.{list_all}
use Rattle.rail_base.specs.declared.history.Entry.{Entry}
use Rattle.rail_base.specs.declared.history.What.{What}
use Rattle.rail_base.specs.declared.history.What.TheVariants.{Admit, End}
use Rattle.rail_base.specs.declared.history.Note.{Note}
use Rattle.rail_base.specs.declared.history.Note.TheVariants.{Fresh}
use Rattle.rail_base.specs.Limits.{most, FreshLines, FreshTrains}
use Rattle.rail_base.specs.declared.names.Names.{Names}
use Rattle.rail_base.specs.declared.refusals.Fault.{Fault}
use Rattle.rail_base.specs.declared.refusals.Fault.TheVariants.{Refused, OutOfMemory}
use Rattle.rail_base.specs.declared.refusals.Reason.TheVariants.{HistoryForm}
use Rattle.rail_base.specs.declared.refusals.Refusal.{Refusal}
use Rattle.rail_rules.specs.Plant.{Plant}
use Rattle.rail_rules.specs.Fronts.{Line}
use Rattle.rail_rules.specs.Texts.{Item, line_text, text}
use Rattle.rail_rules.specs.WritableLines.{IsNamed, does_fit_counter, is_known_train, is_writable_what}
use Rattle.rail_text.specs.Lines.{refusal_at}
use Rattle.rail_text.specs.Names.{HasNames}
use Rattle.rail_history.specs.Lines.{line_of}
use Rattle.rail_history.specs.ReadWords.{is_small, is_small_what}

-- the trains that items name, each as often as it is taken
abbrev pub expanded : List Item → List ℕ
expanded [] = []
expanded (item ∷ items) = replicate item.count item.train ++ expanded items

-- an item that names a train of the plant, with a count that fits 16 bits
abbrev pub is_small_item : Plant → Item → Bool
is_small_item plant item = is_known_train plant item.train && is_small item.count

-- the note is that of a fresh list
abbrev pub is_fresh_note : Note → Bool
is_fresh_note Fresh = true
is_fresh_note _ = false

-- the line has a fresh list
abbrev pub is_fresh : What → Bool
is_fresh (Admit t m note) = is_fresh_note note
is_fresh _ = false

-- the line has trains beside its entry: a fresh list, or those that an end line names
abbrev pub does_list : What → Bool
does_list (Admit t m note) = is_fresh_note note
does_list End = true
does_list _ = false

-- a fresh list has one train or more, and no more trains than a plant has moves
abbrev pub is_fresh_list : List ℕ → Bool
is_fresh_list list = nat_lt 0 (length list) && nat_le (length list) (most FreshTrains)

-- the list is within the limits, if it is a fresh one
abbrev pub is_list_within : What → List ℕ → Bool
is_list_within what list = cond (is_fresh what) (is_fresh_list list) true

-- what a line says may stand in the file: its trains and sections are those of the plant, its numbers fit 16 bits, and its list is within the limits
abbrev pub is_history_what : Plant → Line → Bool
is_history_what plant line =
    is_writable_what plant line line.entry.what && is_small_what line.entry.what && is_list_within line.entry.what line.trains

-- a line of the file: such a line at a time that fits 64 bits
abbrev pub is_history_line : Plant → Line → Bool
is_history_line plant line = does_fit_counter line.entry.at && is_history_what plant line

-- lines of the file, of which no more have a fresh list than a plant has moves
pub record AreHistoryLines (plant : Plant) (lines : List Line) : Type 0 where
  pub each : list_all (is_history_line plant) lines ≡ true
  pub few_fresh : count_by (λ (line : Line). is_fresh line.entry.what) lines ≤ most FreshLines

-- the text of lines, of which the oldest is the first
abbrev pub lines_text : Plant → List Line → List ℕ
lines_text plant lines = text plant (reverse lines)

-- the lines of entries, the oldest first, where the lists stand in the order of the lines that have one
abbrev pub lines_in : List Entry → List (List ℕ) → List Line
lines_in [] lists = []
lines_in (entry ∷ entries) lists =
    line_of entry (get_or lists 0 []) ∷ lines_in entries (cond (does_list entry.what) (drop 1 lists) lists)

-- the bytes are the text of these lines of the file
pub record IsHistory (plant : Plant) (bytes : List ℕ) (lines : List Line) : Type 0 where
  pub are_lines : AreHistoryLines plant lines
  pub whole : bytes ≡ lines_text plant lines

-- the line of this number is the first that is none: the lines before it are lines of the file, and no line follows
-- them there
pub record IsFirstWrong (plant : Plant) (bytes : List ℕ) (number : ℕ) : Type 0 where
  pub before : List Line
  pub rest : List ℕ
  pub are_lines : AreHistoryLines plant before
  pub whole : bytes ≡ lines_text plant before ++ rest
  pub counted : number ≡ length before + 1
  pub some : rest ≢ []
  pub wrong : (line : Line) (more : List ℕ) → AreHistoryLines plant (before ++ line ∷ []) → rest ≡ line_text plant line ++ more → ⊥

-- a line of the file, of which the bytes are the text
pub record IsSpelled (plant : Plant) (line : Line) (bytes : List ℕ) : Type 0 where
  pub is_line : is_history_line plant line ≡ true
  pub spelled : line_text plant line ≡ bytes

-- the bytes are one line of the file, this one
abbrev pub IsLine : Names → List ℕ → Line → Type 0
IsLine names bytes line = (plant : Plant) → HasNames plant names → IsSpelled plant line bytes

-- the bytes are no line of the file
abbrev pub IsNoLine : Names → List ℕ → Type 0
IsNoLine names bytes = (plant : Plant) → HasNames plant names → IsNamed plant → (line : Line) → IsSpelled plant line bytes → ⊥

-- the fault names the first line that is none, unless memory was not found
abbrev pub IsRefusedFor : Names → List ℕ → Fault → Type 0
IsRefusedFor names bytes (Refused refusal) = (refusal ≡ refusal_at HistoryForm refusal.item)
    × ((plant : Plant) → HasNames plant names → IsNamed plant → IsFirstWrong plant bytes refusal.item)
IsRefusedFor names bytes OutOfMemory = Unit {0}

-- the same for the names of a plant
abbrev pub IsRefusedIn : Plant → List ℕ → Fault → Type 0
IsRefusedIn plant bytes (Refused refusal) = (refusal ≡ refusal_at HistoryForm refusal.item) × IsFirstWrong plant bytes refusal.item
IsRefusedIn plant bytes OutOfMemory = Unit {0}

-- the list may stand behind the note: a fresh one within its limits, of trains of the plant
abbrev pub does_fit_note : Plant → Note → List ℕ → Bool
does_fit_note plant Fresh list = is_fresh_list list && list_all (is_known_train plant) list
does_fit_note plant _ list = true
