-- What the words of a line spell.
use Rattle.std.proofs.Common.{◌≡◌, ℕ, ◌<◌, true, ◌&&◌, eqb, List, [], ◌∷◌, length, drop, get_or, decimal, Some, refl, sym}
use Rattle.std.specs.List.{list_all, list_any}
use Rattle.std.proofs.Math.Path.{transport}
use Rattle.std.proofs.lemmas.Bool.{and_parts, and_from, ltb-true, not_from_false}
use Rattle.rail_base.specs.NameForms.{is_name}
use Rattle.rail_base.specs.declared.history.What.{What}
use Rattle.rail_base.specs.declared.history.What.TheVariants.{Free, Arrive, Enter, Out, Ready, Told, Untold, Admit, Hold, End}
use Rattle.rail_base.specs.declared.history.Note.{Note}
use Rattle.rail_base.specs.declared.history.Note.TheVariants.{Pulled, Appended, Fresh}
use Rattle.rail_base.specs.declared.history.Cause.{Cause}
use Rattle.rail_base.specs.declared.history.Cause.TheVariants.{Stopped, Closed, Blocked, NoList}
use Rattle.rail_rules.specs.Plant.{Plant, trains}
use Rattle.rail_rules.specs.Fronts.{Line}
use Rattle.rail_rules.specs.Lawful.{is_bare}
use Rattle.rail_rules.specs.Texts.{cause_words, note_words, section_word, train_word, what_words}
use Rattle.rail_rules.specs.WritableLines.{IsNamed, does_fit_counter, is_known_move, is_known_section, is_known_train, is_writable_cause, is_writable_note, is_writable_what}
use Rattle.rail_laws_text.proofs.CallerLemmas.{AreWords, one_more, name_free, of_what}
use Rattle.rail_history.specs.ReadWords.{is_small_what, is_spaceless, joined, note_of, reason_of, verb_of}
use Rattle.rail_history.specs.declared.read_words.HoldReason.{HoldReason}
use Rattle.rail_history.specs.declared.read_words.HoldReason.TheVariants as reason
use Rattle.rail_history.specs.declared.read_words.Verb.{Verb}
use Rattle.rail_history.specs.declared.read_words.Verb.TheVariants as verb

-- words hold no spaces
pub spaceless : (words : List (List ℕ)) → AreWords words → list_all is_spaceless words ≡ true
spaceless [] are = refl
spaceless (w ∷ ws) (one_more _ _ is rest) = and_from (is_spaceless w) (list_all is_spaceless ws) (not_from_false _ is.no_space) (spaceless ws rest)

pub spaceless_drop : (words : List (List ℕ)) → list_all is_spaceless words ≡ true → list_all is_spaceless (drop 1 words) ≡ true
spaceless_drop [] free = refl
spaceless_drop (w ∷ ws) free = (and_parts (is_spaceless w) (list_all is_spaceless ws) free).1

name_spaceless : (word : List ℕ) → is_name word ≡ true → is_spaceless word ≡ true
name_spaceless word named = not_from_false (list_any (λ b. eqb b 32) word) (name_free 32 refl word named)

pub cause_spaceless : (plant : Plant) → IsNamed plant → (why : Cause) → is_writable_cause plant why ≡ true → list_all is_spaceless (cause_words plant why) ≡ true
cause_spaceless plant named Stopped w = refl
cause_spaceless plant named (Closed x) w =
    and_from (is_spaceless (section_word plant x)) true (name_spaceless (section_word plant x) (named.section_name x (ltb-true x (length plant.tables.sections) w))) refl
cause_spaceless plant named (Blocked x u) w =
    let two = and_parts (is_known_section plant x) (is_known_train plant u) w in
    and_from (is_spaceless (section_word plant x)) (is_spaceless (train_word plant u) && true)
    (name_spaceless (section_word plant x) (named.section_name x (ltb-true x (length plant.tables.sections) two.0)))
    (and_from (is_spaceless (train_word plant u)) true (name_spaceless (train_word plant u) (named.train_name u (ltb-true u (trains plant) two.1))) refl)
cause_spaceless plant named NoList w = refl

-- what the words spell, by the first of them
abbrev pub Spells : Plant → (first second third rest : List ℕ) → What → Verb → Type 0
Spells plant first second third rest what verb.Free = (x t : ℕ) × (what ≡ Free x t) × (x < length plant.tables.sections) × (t < trains plant) × (first ≡ section_word plant x) × (second ≡ train_word plant t)
Spells plant first second third rest what verb.Arrive = (t m : ℕ) × (what ≡ Arrive t m) × (t < trains plant) × (m < 65536) × (first ≡ train_word plant t) × (second ≡ decimal m)
Spells plant first second third rest what verb.Enter = (t m x : ℕ) × (what ≡ Enter t m x) × (t < trains plant) × (m < 65536) × (x < length plant.tables.sections) × (first ≡ train_word plant t) × (second ≡ decimal m) × (third ≡ section_word plant x)
Spells plant first second third rest what verb.Out = (t : ℕ) × (what ≡ Out t) × (t < trains plant) × (first ≡ train_word plant t)
Spells plant first second third rest what verb.Ready = (t m : ℕ) × (what ≡ Ready t m) × (t < trains plant) × (m < 65536) × (first ≡ train_word plant t) × (second ≡ decimal m)
Spells plant first second third rest what verb.Told = (k : ℕ) × (what ≡ Told k) × (k < 65536) × (first ≡ decimal k)
Spells plant first second third rest what verb.Untold = (k : ℕ) × (what ≡ Untold k) × (k < 65536) × (first ≡ decimal k)
Spells plant first second third rest what verb.Admit = (t m : ℕ) × (note : Note) × (what ≡ Admit t m note) × (t < trains plant) × (m < 65536) × (first ≡ train_word plant t) × (second ≡ decimal m) × (note_of third ≡ Some note)
Spells plant first second third rest what verb.Hold = (t m : ℕ) × (why : Cause) × (what ≡ Hold t m why)
    × (t < trains plant) × (m < 65536) × (is_writable_cause plant why ≡ true) × (first ≡ train_word plant t)
    × (second ≡ decimal m) × (third ≡ get_or (cause_words plant why) 0 [])
    × (rest ≡ joined (drop 1 (cause_words plant why)))
Spells plant first second third rest what verb.End = what ≡ End
Spells plant first second third rest what verb.Other = ⊥

note_told : (plant : Plant) (line : Line) (note : Note) → note_of (get_or (note_words plant line note) 0 []) ≡ Some note
note_told plant line Pulled = refl
note_told plant line Appended = refl
note_told plant line Fresh = refl

module _ (plant : Plant) (named : IsNamed plant) (line : Line) where
  pub what_spaceless : (what : What) → is_writable_what plant line what ≡ true → list_all is_spaceless (what_words plant line what) ≡ true
  what_spaceless what writable = spaceless (what_words plant line what) (of_what plant named line what writable)

  train_lt : (t : ℕ) → is_known_train plant t ≡ true → t < trains plant
  train_lt t h = ltb-true t (trains plant) h

  section_lt : (x : ℕ) → is_known_section plant x ≡ true → x < length plant.tables.sections
  section_lt x h = ltb-true x (length plant.tables.sections) h

  small_lt : (n : ℕ) → Rattle.rail_history.specs.ReadWords.is_small n ≡ true → n < 65536
  small_lt n h = ltb-true n 65536 h

  move_lt : (t m : ℕ) → is_known_move plant t m ≡ true → t < trains plant
  move_lt t m h = train_lt t (and_parts (is_known_train plant t) (does_fit_counter m) h).0

  by_words : (what : What) → is_writable_what plant line what ≡ true → is_small_what what ≡ true →
      let ws : List (List ℕ) = what_words plant line what in
      Spells plant (get_or (drop 1 ws) 0 []) (get_or (drop 1 (drop 1 ws)) 0 []) (get_or (drop 1 (drop 1 (drop 1 ws))) 0 []) (joined (drop 1 (drop 1 (drop 1 (drop 1 ws))))) what (verb_of (get_or ws 0 []))
  by_words (Free x t) w s =
      let two = and_parts (is_known_section plant x) (is_known_train plant t) (and_parts (is_known_section plant x && is_known_train plant t) (is_bare line) w).0 in
      (x, t, refl, section_lt x two.0, train_lt t two.1, refl, refl)
  by_words (Arrive t m) w s = (t, m, refl, move_lt t m (and_parts (is_known_move plant t m) (is_bare line) w).0, small_lt m s, refl, refl)
  by_words (Enter t m x) w s =
      let two = and_parts (is_known_move plant t m) (is_known_section plant x) (and_parts (is_known_move plant t m && is_known_section plant x) (is_bare line) w).0 in
      (t, m, x, refl, move_lt t m two.0, small_lt m s, section_lt x two.1, refl, refl, refl)
  by_words (Out t) w s = (t, refl, train_lt t (and_parts (is_known_train plant t) (is_bare line) w).0, refl)
  by_words (Ready t m) w s = (t, m, refl, move_lt t m (and_parts (is_known_move plant t m) (is_bare line) w).0, small_lt m s, refl, refl)
  by_words (Told k) w s = (k, refl, small_lt k s, refl)
  by_words (Untold k) w s = (k, refl, small_lt k s, refl)
  by_words (Admit t m note) w s = (t, m, note, refl, move_lt t m (and_parts (is_known_move plant t m) (is_writable_note plant line note) w).0, small_lt m s, refl, refl, note_told plant line note)
  by_words (Hold t m why) w s =
      let two = and_parts (is_known_move plant t m) (is_writable_cause plant why) (and_parts (is_known_move plant t m && is_writable_cause plant why) (is_bare line) w).0 in
      (t, m, why, refl, move_lt t m two.0, small_lt m s, two.1, refl, refl, refl, refl)
  by_words End w s = refl

  pub spelled : (what : What) → is_writable_what plant line what ≡ true → is_small_what what ≡ true → (v first second third rest : List ℕ)
      → (let ws : List (List ℕ) = what_words plant line what in
      (v ≡ get_or ws 0 []) × (first ≡ get_or (drop 1 ws) 0 []) × (second ≡ get_or (drop 1 (drop 1 ws)) 0 []) × (third ≡ get_or (drop 1 (drop 1 (drop 1 ws))) 0 []) × (rest ≡ joined (drop 1 (drop 1 (drop 1 (drop 1 ws))))))
      → Spells plant first second third rest what (verb_of v)
  spelled what w s v first second third rest is =
      let e0 = sym is.0 in let e1 = sym is.1 in let e2 = sym is.2 in let e3 = sym is.3 in let e4 = sym is.4 in
      transport (λ i. Spells plant (e1 i) (e2 i) (e3 i) (e4 i) what (verb_of (e0 i))) (by_words what w s)

-- what a cause's words spell
abbrev pub Causes : Plant → (first second : List ℕ) → Cause → HoldReason → Type 0
Causes plant first second why reason.Stopped = why ≡ Stopped
Causes plant first second why reason.Closed = (x : ℕ) × (why ≡ Closed x) × (x < length plant.tables.sections) × (first ≡ section_word plant x)
Causes plant first second why reason.Blocked = (x u : ℕ) × (why ≡ Blocked x u) × (x < length plant.tables.sections) × (u < trains plant) × (first ≡ section_word plant x) × (second ≡ train_word plant u)
Causes plant first second why reason.NoList = why ≡ NoList
Causes plant first second why reason.Other = ⊥

causes_by : (plant : Plant) (why : Cause) → is_writable_cause plant why ≡ true →
    let ws : List (List ℕ) = cause_words plant why in
    Causes plant (get_or (drop 1 ws) 0 []) (get_or (drop 1 (drop 1 ws)) 0 []) why (reason_of (get_or ws 0 []))
causes_by plant Stopped w = refl
causes_by plant (Closed x) w = (x, refl, ltb-true x (length plant.tables.sections) w, refl)
causes_by plant (Blocked x u) w =
    let two = and_parts (is_known_section plant x) (is_known_train plant u) w in
    (x, u, refl, ltb-true x (length plant.tables.sections) two.0, ltb-true u (trains plant) two.1, refl, refl)
causes_by plant NoList w = refl

pub causes : (plant : Plant) (why : Cause) → is_writable_cause plant why ≡ true → (word first second : List ℕ)
    → (let ws : List (List ℕ) = cause_words plant why in (word ≡ get_or ws 0 []) × (first ≡ get_or (drop 1 ws) 0 []) × (second ≡ get_or (drop 1 (drop 1 ws)) 0 []))
    → Causes plant first second why (reason_of word)
causes plant why w word first second is =
    let e0 = sym is.0 in let e1 = sym is.1 in let e2 = sym is.2 in
    transport (λ i. Causes plant (e1 i) (e2 i) why (reason_of (e0 i))) (causes_by plant why w)
