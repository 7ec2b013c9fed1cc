-- A line that is read, by its words.
use Rattle.std.proofs.Common.{◌≡◌, ℕ, ◌-◌, ◌<◌, ◌^◌, true, false, ◌&&◌, List, [], ◌∷◌, ◌++◌, length, map, take, Some, None, refl, sym, ap, ◌∙◌, subst, arith}
use Rattle.std.specs.List.{list_all, list_any}
use Rattle.std.proofs.lemmas.Bool.{and_parts, and_from, ltb-true, not_from_false, or_from}
use Rattle.std.proofs.lemmas.List.{append-nil}
use Rattle.std.proofs.lemmas.List.Folds.{list_any-append}
use Rattle.rail_base.specs.Clock.{time_text}
use Rattle.rail_base.specs.declared.history.What.{What}
use Rattle.rail_base.specs.declared.names.Names.{Names}
use Rattle.rail_base.specs.declared.plant.SectionRow.{SectionRow}
use Rattle.rail_base.specs.declared.plant.TrainRow.{TrainRow}
use Rattle.rail_rules.specs.Plant.{Plant, no_section, no_train}
use Rattle.rail_rules.specs.Fronts.{Line}
use Rattle.rail_rules.specs.Texts.{behind, line_text, line_words, what_words}
use Rattle.rail_rules.specs.WritableLines.{IsNamed, does_fit_counter, is_writable, is_writable_what}
use Rattle.rail_laws_text.proofs.CallerLemmas.{AreWords, of_what, one_more}
use Rattle.std.specs.Prelude.{Option, IsSomeAnd}
use Rattle.rail_text.specs.Names.{HasNames}
use Rattle.rail_history.specs.declared.read_line.ReadLine.{ReadLine}
use Rattle.rail_history.specs.LineReads.{line_read}
use Rattle.rail_history.specs.HistoryLines.{IsSpelled, is_history_line, is_list_within, is_history_what}
use Rattle.rail_history.specs.Lines.{brought, line_of}
use Rattle.rail_history.specs.ReadWords.{is_small_what, is_spaceless, joined}
use Rattle.rail_history.proofs.LineFeeds.{is_feed}
use Rattle.rail_history.proofs.Spelled.{what_spaceless}
use Rattle.rail_history.proofs.Times.{front_at, time_free}

-- what a line of the file keeps to
pub record AreKept (plant : Plant) (line : Line) : Type 0 where
  pub at : line.entry.at < 2 ^ 64
  pub writable : is_writable_what plant line line.entry.what ≡ true
  pub small : is_small_what line.entry.what ≡ true
  pub within : is_list_within line.entry.what line.trains ≡ true

pub kept_of : (plant : Plant) (line : Line) → is_history_line plant line ≡ true → AreKept plant line
kept_of plant line is =
    let one = and_parts (does_fit_counter line.entry.at) (is_history_what plant line) is in
    let two = and_parts (is_writable_what plant line line.entry.what && is_small_what line.entry.what) (is_list_within line.entry.what line.trains) one.1 in
    let three = and_parts (is_writable_what plant line line.entry.what) (is_small_what line.entry.what) two.0 in
    record { at = ltb-true line.entry.at (2 ^ 64) one.0; writable = three.0; small = three.1; within = two.1 }

pub can_write : (plant : Plant) (line : Line) → is_history_line plant line ≡ true → is_writable plant line ≡ true
can_write plant line is =
    let one = and_parts (does_fit_counter line.entry.at) (is_history_what plant line) is in
    and_from (does_fit_counter line.entry.at) (is_writable_what plant line line.entry.what) one.0 (kept_of plant line is).writable

pub words_spaceless : (plant : Plant) → IsNamed plant → (line : Line) → is_history_line plant line ≡ true → list_all is_spaceless (line_words plant line) ≡ true
words_spaceless plant named line is =
    let kept = kept_of plant line is in
    and_from (is_spaceless (time_text line.entry.at)) (list_all is_spaceless (what_words plant line line.entry.what))
    (not_from_false _ (time_free 32 (omega arith) line.entry.at kept.at))
    (what_spaceless plant named line line.entry.what kept.writable)

-- a plant that has the names
plant_of : Names → Plant
plant_of names = record {
  tables = record {
    sections = map (λ (name : List ℕ). record no_section { name = name }) names.sections.keys;
    release = 0;
    overlap_time = 0;
    depth = 0;
    trains = map (λ (name : List ℕ). record no_train { name = name }) names.trains.keys;
  };
  calls = [];
}

section_names : (names : List (List ℕ)) → names ≡ map (λ (row : SectionRow). row.name) (map (λ (name : List ℕ). record no_section { name = name }) names)
section_names [] = refl
section_names (name ∷ names) = ap (λ (rest : List (List ℕ)). name ∷ rest) (section_names names)

train_names : (names : List (List ℕ)) → names ≡ map (λ (row : TrainRow). row.name) (map (λ (name : List ℕ). record no_train { name = name }) names)
train_names [] = refl
train_names (name ∷ names) = ap (λ (rest : List (List ℕ)). name ∷ rest) (train_names names)

pub some_plant : (names : Names) → (plant : Plant) × HasNames plant names
unfolding plant_of
some_plant names = (plant_of names, record { sections = section_names names.sections.keys; trains = train_names names.trains.keys })

-- the text of a line is its words, with one space between two of them, and a line feed
joined-behind : (w : List ℕ) (words : List (List ℕ)) → joined (w ∷ words) ≡ w ++ behind words
joined-behind w [] = sym (append-nil w)
joined-behind w (v ∷ words) = ap (λ rest. w ++ 32 ∷ rest) (joined-behind v words)

pub text_is : (plant : Plant) (line : Line) → line_text plant line ≡ joined (line_words plant line) ++ 10 ∷ []
text_is plant line = ap (λ (text : List ℕ). text ++ 10 ∷ []) (sym (joined-behind (time_text line.entry.at) (what_words plant line line.entry.what)))

feed_free : (words : List (List ℕ)) → AreWords words → list_any is_feed (joined words) ≡ false
feed_free [] are = refl
feed_free (w ∷ []) (one_more _ _ is rest) = is.no_feed
feed_free (w ∷ v ∷ words) (one_more _ _ is rest) =
    list_any-append is_feed w (32 ∷ joined (v ∷ words)) ∙ or_from (list_any is_feed w) (list_any is_feed (32 ∷ joined (v ∷ words))) is.no_feed (feed_free (v ∷ words) rest)

behind_time : (at : List ℕ) (words : List (List ℕ)) → AreWords words → list_any is_feed at ≡ false → list_any is_feed (joined (at ∷ words)) ≡ false
behind_time at [] are time = time
behind_time at (v ∷ words) are time =
    list_any-append is_feed at (32 ∷ joined (v ∷ words)) ∙ or_from (list_any is_feed at) (list_any is_feed (32 ∷ joined (v ∷ words))) time (feed_free (v ∷ words) are)

-- no line feed stands in a line but at its end
pub one_feed : (plant : Plant) → IsNamed plant → (line : Line) → is_history_line plant line ≡ true → list_any is_feed (joined (line_words plant line)) ≡ false
one_feed plant named line is =
    let kept = kept_of plant line is in
    behind_time (time_text line.entry.at) (what_words plant line line.entry.what) (of_what plant named line line.entry.what kept.writable) (time_free 10 (omega arith) line.entry.at kept.at)

-- a line that was put together from its parts
pub same_line : (line : Line) (at : ℕ) (what : What) (list : List ℕ) → at ≡ line.entry.at → what ≡ line.entry.what → brought what list ≡ line.trains
    → line_of (record { at = at; what = what }) list ≡ line
same_line line at what list a w l = λ i. record { entry = record { at = a i; what = w i }; trains = l i }

-- what stands before the line feed of a line
pub front_is : (plant : Plant) (line : Line) (bytes : List ℕ) → IsSpelled plant line bytes → take (length bytes - 1) bytes ≡ joined (line_words plant line)
front_is plant line bytes is = front_at bytes (joined (line_words plant line)) (10 ∷ []) 1 (sym is.spelled ∙ text_is plant line) refl

-- the line that was read is the one that the bytes spell, so there is one
pub found_none : (line : Line) (read : Option ReadLine) → read ≡ None → IsSomeAnd read (λ (found : ReadLine). line_read found ≡ line) → ⊥
found_none line read none some = subst (λ (o : Option ReadLine). IsSomeAnd o (λ (found : ReadLine). line_read found ≡ line)) none some

pub found_some : (line : Line) (read : Option ReadLine) (found : ReadLine) → read ≡ Some found → IsSomeAnd read (λ (found : ReadLine). line_read found ≡ line) → line_read found ≡ line
found_some line read found is some = subst (λ (o : Option ReadLine). IsSomeAnd o (λ (found : ReadLine). line_read found ≡ line)) is some
