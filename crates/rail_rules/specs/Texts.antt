-- The text of a history.
use Rattle.std.specs.Prelude.{ℕ, suc, ◌==◌, cond, List, [], ◌∷◌, ◌++◌, map, codes, decimal}
use Rattle.rail_base.specs.Clock.{time_text}
use Rattle.rail_base.specs.declared.history.What.{What}
use Rattle.rail_base.specs.declared.history.What.TheVariants.{Free, Arrive, Enter, Out, Ready, Told, Untold, Admit, Hold, End}
use Rattle.rail_base.specs.declared.history.Note.{Note}
use Rattle.rail_base.specs.declared.history.Note.TheVariants.{Pulled, Appended, Fresh}
use Rattle.rail_base.specs.declared.history.Cause.{Cause}
use Rattle.rail_base.specs.declared.history.Cause.TheVariants.{Stopped, Closed, Blocked, NoList}
use Rattle.rail_rules.specs.Plant.{Plant, train, section}
use Rattle.rail_rules.specs.Fronts.{Line, Front}

-- a train, taken so many times in a row
pub record Item : Type 0 where
  pub train : ℕ
  pub count : ℕ

-- the items with one more of the train in front
abbrev pub with_train : ℕ → List Item → List Item
with_train t [] = record { train = t; count = 1 } ∷ []
with_train t (item ∷ items) = cond (item.train == t)
    (record { train = t; count = suc item.count } ∷ items)
    (record { train = t; count = 1 } ∷ item ∷ items)

-- a list as items: neighbouring ones have different trains
abbrev pub items_of : List ℕ → List Item
items_of [] = []
items_of (t ∷ rest) = with_train t (items_of rest)

-- the name of a train
abbrev pub train_word : Plant → ℕ → List ℕ
train_word plant t = (train plant t).name

-- the name of a section
abbrev pub section_word : Plant → ℕ → List ℕ
section_word plant x = (section plant x).name

-- an item is spelled TRAIN, or TRAIN*COUNT from two on
abbrev pub item_word : Plant → Item → List ℕ
item_word plant item = train_word plant item.train ++ cond (item.count == 1) [] (42 ∷ decimal item.count)

-- the words of a note, with the items of a fresh list
abbrev pub note_words : Plant → Line → Note → List (List ℕ)
note_words plant line Pulled = codes "pulled" ∷ []
note_words plant line Appended = codes "appended" ∷ []
note_words plant line Fresh = codes "fresh" ∷ map (item_word plant) (items_of line.trains)

-- the words of a cause
abbrev pub cause_words : Plant → Cause → List (List ℕ)
cause_words plant Stopped = codes "stopped" ∷ []
cause_words plant (Closed x) = codes "closed" ∷ section_word plant x ∷ []
cause_words plant (Blocked x u) = codes "blocked" ∷ section_word plant x ∷ train_word plant u ∷ []
cause_words plant NoList = codes "nolist" ∷ []

-- the words of a line after its time
abbrev pub what_words : Plant → Line → What → List (List ℕ)
what_words plant line (Free x t) = codes "free" ∷ section_word plant x ∷ train_word plant t ∷ []
what_words plant line (Arrive t m) = codes "arrive" ∷ train_word plant t ∷ decimal m ∷ []
what_words plant line (Enter t m x) = codes "enter" ∷ train_word plant t ∷ decimal m ∷ section_word plant x ∷ []
what_words plant line (Out t) = codes "out" ∷ train_word plant t ∷ []
what_words plant line (Ready t m) = codes "ready" ∷ train_word plant t ∷ decimal m ∷ []
what_words plant line (Told k) = codes "told" ∷ decimal k ∷ []
what_words plant line (Untold k) = codes "untold" ∷ decimal k ∷ []
what_words plant line (Admit t m note) = codes "admit" ∷ train_word plant t ∷ decimal m ∷ note_words plant line note
what_words plant line (Hold t m cause) = codes "hold" ∷ train_word plant t ∷ decimal m ∷ cause_words plant cause
what_words plant line End = codes "end" ∷ map (train_word plant) line.trains

-- the words of a line
abbrev pub line_words : Plant → Line → List (List ℕ)
line_words plant line = time_text line.entry.at ∷ what_words plant line line.entry.what

-- words, each behind a space
abbrev pub behind : List (List ℕ) → List ℕ
behind [] = []
behind (word ∷ words) = 32 ∷ word ++ behind words

-- words with one space between two of them, and a line feed at the end
abbrev pub spaced : List (List ℕ) → List ℕ
spaced [] = 10 ∷ []
spaced (word ∷ words) = word ++ behind words ++ 10 ∷ []

-- the text of a line
abbrev pub line_text : Plant → Line → List ℕ
line_text plant line = spaced (line_words plant line)

-- the text of a history: its lines from the oldest on
abbrev pub text : Plant → Front → List ℕ
text plant [] = []
text plant (line ∷ before) = text plant before ++ line_text plant line
