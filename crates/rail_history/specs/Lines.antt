-- The lines that entries make.
use Rattle.std.specs.Prelude.{ℕ, ◌==◌, cond, List, [], ◌∷◌, ◌++◌, map, codes, decimal}
use Rattle.rail_base.specs.declared.history.Entry.{Entry}
use Rattle.rail_base.specs.declared.history.What.{What}
use Rattle.rail_base.specs.declared.history.What.TheVariants.{Admit, End}
use Rattle.rail_base.specs.declared.history.Note.{Note}
use Rattle.rail_base.specs.declared.history.Note.TheVariants.{Pulled, Appended, Fresh}
use Rattle.rail_base.specs.declared.names.Names.{Names}
use Rattle.rail_rules.specs.Fronts.{Line}
use Rattle.rail_rules.specs.Texts.{Item, items_of}
use Rattle.rail_text.specs.Names.{names_in, train_name}

-- the line of an entry, without trains beside it
abbrev pub bare : Entry → Line
bare entry = record { entry = entry; trains = [] }

-- of these trains, those that an admission with this note brings: all of a fresh list
abbrev pub brought_by_note : Note → List ℕ → List ℕ
brought_by_note Fresh kept = kept
brought_by_note Pulled kept = []
brought_by_note Appended kept = []

-- of these trains, those that a line brings: a fresh list, and those that an end line names
abbrev pub brought : What → List ℕ → List ℕ
brought (Admit t m note) kept = brought_by_note note kept
brought End kept = kept
brought _ kept = []

-- the line of an entry with the trains that it brings
abbrev pub line_of : Entry → List ℕ → Line
line_of entry kept = record { entry = entry; trains = brought entry.what kept }

-- an item is spelled TRAIN, or TRAIN*COUNT from two on
abbrev pub item_text : Names → Item → List ℕ
item_text names item = train_name (names_in names) item.train ++ cond (item.count == 1) [] (42 ∷ decimal item.count)

-- the words for the list of an admission with this note
abbrev pub note_brought_words : Names → Note → List ℕ → List (List ℕ)
note_brought_words names Fresh kept = map (item_text names) (items_of kept)
note_brought_words names Pulled kept = []
note_brought_words names Appended kept = []

-- the words for the trains that a line brings: a fresh list as items, and each train of an end line
abbrev pub brought_words : Names → What → List ℕ → List (List ℕ)
brought_words names (Admit t m note) kept = note_brought_words names note kept
brought_words names End kept = map (train_name (names_in names)) kept
brought_words names _ kept = []

-- the word of a note
abbrev pub note_word : Note → List ℕ
note_word Pulled = codes "pulled"
note_word Appended = codes "appended"
note_word Fresh = codes "fresh"
