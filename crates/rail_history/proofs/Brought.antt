-- The trains that a line brings, as words.
use Rattle.std.proofs.Common.{◌≡◌, ℕ, ◌==◌, cond, List, [], ◌∷◌, ◌++◌, map, get_or, codes, decimal, refl, sym, ap, ◌∙◌, append_assoc}
use Rattle.std.proofs.lemmas.List.{append-nil}
use Rattle.std.proofs.Math.ListN.{get_or-map}
use Rattle.rail_base.specs.Clock.{time_text}
use Rattle.rail_base.specs.declared.history.Entry.{Entry}
use Rattle.rail_base.specs.declared.history.What.{What}
use Rattle.rail_base.specs.declared.history.What.TheVariants.{Free, Arrive, Enter, Out, Ready, Told, Untold, Admit, Hold, End}
use Rattle.rail_base.specs.declared.history.Note.{Note}
use Rattle.rail_base.specs.declared.history.Note.TheVariants.{Pulled, Appended, Fresh}
use Rattle.rail_base.specs.declared.names.Names.{Names}
use Rattle.rail_base.specs.declared.plant.TrainRow.{TrainRow}
use Rattle.rail_rules.specs.Plant.{Plant, no_train}
use Rattle.rail_rules.specs.Texts.{Item, cause_words, items_of, item_word, line_text, note_words, train_word, what_words}
use Rattle.rail_rules.specs.Texts.{behind}
use Rattle.rail_text.specs.Names.{HasNames, names_in, train_name}
use Rattle.rail_text.proofs.CallerLemmas.{behind_append}
use Rattle.rail_history.specs.Lines.{bare, brought_by_note, brought_words, item_text, line_of, note_brought_words}

-- the names are those of the plant's trains
pub name_is : (plant : Plant) (names : Names) → HasNames plant names → (t : ℕ) → train_word plant t ≡ train_name (names_in names) t
name_is plant names named t =
    sym (ap (λ (keys : List (List ℕ)). get_or keys t []) named.trains ∙ get_or-map (λ (row : TrainRow). row.name) plant.tables.trains t no_train)

items_are : (plant : Plant) (names : Names) → HasNames plant names → (kept : List ℕ) → map (item_word plant) (items_of kept) ≡ map (item_text names) (items_of kept)
items_are plant names named kept = λ i. map (λ (item : Item). name_is plant names named item.train i ++ cond (item.count == 1) [] (42 ∷ decimal item.count)) (items_of kept)

names_are : (plant : Plant) (names : Names) → HasNames plant names → (kept : List ℕ) → map (train_word plant) kept ≡ map (train_name (names_in names)) kept
names_are plant names named kept = λ i. map (λ (t : ℕ). name_is plant names named t i) kept

note_words_are : (plant : Plant) (names : Names) → HasNames plant names → (entry : Entry) (kept : List ℕ) (note : Note)
    → note_words plant (record { entry = entry; trains = brought_by_note note kept }) note ≡ note_words plant (bare entry) note ++ note_brought_words names note kept
note_words_are plant names named entry kept Pulled = refl
note_words_are plant names named entry kept Appended = refl
note_words_are plant names named entry kept Fresh = ap (λ (words : List (List ℕ)). codes "fresh" ∷ words) (items_are plant names named kept)

-- the words of a line are those of a bare one, and those for its trains
words_are : (plant : Plant) (names : Names) → HasNames plant names → (at : ℕ) (kept : List ℕ) (what : What)
    → what_words plant (line_of (record { at = at; what = what }) kept) what ≡ what_words plant (bare (record { at = at; what = what })) what ++ brought_words names what kept
words_are plant names named at kept (Free x t) = refl
words_are plant names named at kept (Arrive t m) = refl
words_are plant names named at kept (Enter t m x) = refl
words_are plant names named at kept (Out t) = refl
words_are plant names named at kept (Ready t m) = refl
words_are plant names named at kept (Told k) = refl
words_are plant names named at kept (Untold k) = refl
words_are plant names named at kept (Admit t m note) = ap (λ (words : List (List ℕ)). codes "admit" ∷ train_word plant t ∷ decimal m ∷ words) (note_words_are plant names named (record { at = at; what = Admit t m note }) kept note)
words_are plant names named at kept (Hold t m cause) = sym (append-nil (codes "hold" ∷ train_word plant t ∷ decimal m ∷ cause_words plant cause))
words_are plant names named at kept End = ap (λ (words : List (List ℕ)). codes "end" ∷ words) (names_are plant names named kept)

-- a line that was put together from its time, the words of a bare line, those for its trains and a line feed
pub text_together : (plant : Plant) (names : Names) → HasNames plant names → (entry : Entry) (kept : List ℕ) {said begun : List ℕ} → said ≡ begun ++ behind (what_words plant (bare entry) entry.what) → begun ≡ time_text entry.at
    → (said ++ behind (brought_words names entry.what kept)) ++ 10 ∷ [] ≡ line_text plant (line_of entry kept)
text_together plant names named entry kept {said} {begun} a b =
    let time : List ℕ = time_text entry.at in
    let first : List (List ℕ) = what_words plant (bare entry) entry.what in
    let more : List (List ℕ) = brought_words names entry.what kept in
    let words : List (List ℕ) = what_words plant (line_of entry kept) entry.what in
    let e : behind words ≡ behind first ++ behind more = ap behind (words_are plant names named entry.at kept entry.what) ∙ behind_append first more in
    let all : said ≡ time ++ behind first = rw (a, b) refl in
    ap (λ (xs : List ℕ). (xs ++ behind more) ++ 10 ∷ []) all
    ∙ ap (λ (xs : List ℕ). xs ++ 10 ∷ []) (append_assoc time (behind first) (behind more))
    ∙ sym (ap (λ (xs : List ℕ). (time ++ xs) ++ 10 ∷ []) e)
