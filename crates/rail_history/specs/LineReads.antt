-- What the reading of a line answers.
use Rattle.std.specs.Prelude.{◌≡◌, ℕ, ◌+◌, ◌<◌, true, cond, List, count_by, drop, length, map, Option, IsSomeAnd}
use Rattle.rail_base.specs.declared.history.Entry.{Entry}
use Rattle.rail_base.specs.declared.history.Note.{Note}
use Rattle.rail_base.specs.declared.history.What.{What}
use Rattle.rail_base.specs.Limits.{most, FreshLines}
use Rattle.rail_base.specs.declared.names.Names.{Names}
use Rattle.rail_base.specs.declared.refusals.Fault.{Fault}
use Rattle.rail_base.specs.declared.refusals.Fault.TheVariants.{Refused, OutOfMemory}
use Rattle.rail_base.specs.declared.refusals.Reason.TheVariants.{HistoryForm}
use Rattle.rail_rules.specs.Plant.{Plant}
use Rattle.rail_rules.specs.Fronts.{Line}
use Rattle.rail_rules.specs.Texts.{line_words, note_words, what_words}
use Rattle.rail_rules.specs.WritableLines.{IsNamed, is_writable_note, is_writable_what}
use Rattle.rail_text.specs.Lines.{refusal_at}
use Rattle.rail_text.specs.Names.{HasNames}
use Rattle.rail_history.specs.declared.read_line.ReadLine.{ReadLine}
use Rattle.rail_history.specs.declared.files.History.{History}
use Rattle.rail_history.specs.HistoryLines.{IsSpelled, does_list, is_fresh, is_fresh_list, is_fresh_note, is_history_line, is_list_within, lines_in}
use Rattle.rail_history.specs.Lines.{brought, brought_by_note, line_of}
use Rattle.rail_history.specs.ListItems.{spelled_by}
use Rattle.rail_history.specs.ReadWords.{joined}

-- the trains that were read beside the entry
abbrev pub trains_read : ReadLine → List ℕ
trains_read read = read.trains.items

-- the line that was read
abbrev pub line_read : ReadLine → Line
line_read read = line_of read.entry (trains_read read)

-- where the text is that of a line before its line feed, this line is read
abbrev pub IsLikelyLine : Names → List ℕ → Option ReadLine → Type 0
IsLikelyLine names text read = (plant : Plant) → HasNames plant names → IsNamed plant → (line : Line)
    → is_history_line plant line ≡ true → text ≡ joined (line_words plant line) → IsSomeAnd read (λ (found : ReadLine). line_read found ≡ line)

-- where the text is that of a line behind its time, these are the trains that the line brings
abbrev pub AreLikelyTrains : Names → What → List ℕ → List ℕ → Type 0
AreLikelyTrains names what text list = (plant : Plant) → HasNames plant names → IsNamed plant → (line : Line)
    → is_writable_what plant line what ≡ true → is_list_within what line.trains ≡ true
    → text ≡ joined (what_words plant line what) → brought what list ≡ line.trains

-- where the text is that of an admission behind its note, these are the trains that the line brings
abbrev pub AreNotedTrains : Names → Note → List ℕ → List ℕ → Type 0
AreNotedTrains names note text list = (plant : Plant) → HasNames plant names → IsNamed plant → (line : Line)
    → is_writable_note plant line note ≡ true → cond (is_fresh_note note) (is_fresh_list line.trains) true ≡ true
    → text ≡ joined (drop 1 (note_words plant line note)) → brought_by_note note list ≡ line.trains

-- the trains that the lines of a history have beside their entries, for those lines that have some
abbrev pub lists_of : History → List (List ℕ)
lists_of history = map spelled_by history.lists.items

-- the lines of a history
abbrev pub lines_of : History → List Line
lines_of history = lines_in history.entries.items (lists_of history)

-- there are as many lists as lines that have one
abbrev pub IsPaired : History → Type 0
IsPaired history = count_by (λ (entry : Entry). does_list entry.what) history.entries.items ≡ length (lists_of history)

-- behind so many fresh lists the bytes are no line, or one fresh list too many
abbrev pub IsWrongLine : Names → ℕ → ℕ → List ℕ → Fault → Type 0
IsWrongLine names fresh number bytes (Refused refusal) = (refusal ≡ refusal_at HistoryForm number)
    × ((plant : Plant) → HasNames plant names → IsNamed plant → (line : Line) → IsSpelled plant line bytes → most FreshLines < fresh + cond (is_fresh line.entry.what) 1 0)
IsWrongLine names fresh number bytes OutOfMemory = Unit {0}
