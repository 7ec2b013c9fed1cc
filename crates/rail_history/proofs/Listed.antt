-- The lists of a line as items.
use Rattle.std.proofs.Common.{◌≡◌, ℕ, suc, ◌<◌, ◌≤◌, Bool, true, eqb, nat_le, nat_lt, List, [], ◌∷◌, ◌++◌, drop, length, map, replicate, refl, sym, ap, ◌∙◌, subst, ⊎_elim, arith, length-append}
use Rattle.std.specs.List.{list_all}
use Rattle.std.proofs.lemmas.Bool.{and_parts, and_from, cases_Bool, cond-true, cond-false, eqb-true, leb-true, lt-ltb, ltb-true}
use Rattle.std.proofs.lemmas.List.{append-nil, length-replicate, nil_from_length}
use Rattle.rail_base.specs.NameForms.{is_name_byte}
use Rattle.rail_base.specs.declared.history.What.{What}
use Rattle.rail_base.specs.declared.history.What.TheVariants.{Free, Arrive, Enter, Out, Ready, Told, Untold, Admit, Hold, End}
use Rattle.rail_base.specs.declared.history.Note.{Note}
use Rattle.rail_base.specs.declared.history.Note.TheVariants.{Pulled, Appended, Fresh}
use Rattle.rail_base.specs.declared.limits.TheConstants.{LIST_TRAINS}
use Rattle.rail_rules.specs.Plant.{Plant, trains}
use Rattle.rail_rules.specs.Fronts.{Line}
use Rattle.rail_rules.specs.Lawful.{is_bare}
use Rattle.rail_rules.specs.Texts.{Item, items_of, item_word, train_word, what_words, with_train}
use Rattle.rail_rules.specs.WritableLines.{IsNamed, does_fit_counter, is_known_move, is_known_train, is_writable_note, is_writable_what}
use Rattle.rail_text.specs.Names.{HasNames}
use Rattle.rail_history.specs.HistoryLines.{expanded, is_fresh_list, is_small_item}
use Rattle.rail_history.specs.LineReads.{AreLikelyTrains, AreNotedTrains}
use Rattle.rail_history.specs.Lines.{brought}
use Rattle.rail_history.specs.ReadWords.{is_small, is_spaceless, joined}
use Rattle.rail_history.proofs.Spelled.{what_spaceless}
use Rattle.rail_base.specs.declared.names.Names.{Names}

-- a list comes back from its items
expanded_with : (t : ℕ) (items : List Item) → expanded (with_train t items) ≡ t ∷ expanded items
expanded_with t [] = refl
expanded_with t (item ∷ items) =
    let more : List Item = record { train = t; count = suc item.count } ∷ items in
    let fewer : List Item = record { train = t; count = 1 } ∷ item ∷ items in
    ⊎_elim
    (λ same. ap expanded (cond-true (eqb item.train t) more fewer same) ∙ ap (λ u. t ∷ (replicate item.count u ++ expanded items)) (sym (eqb-true item.train t same)))
    (λ other. ap expanded (cond-false (eqb item.train t) more fewer other))
    (cases_Bool (eqb item.train t))

pub expanded_items : (list : List ℕ) → expanded (items_of list) ≡ list
expanded_items [] = refl
expanded_items (t ∷ rest) = expanded_with t (items_of rest) ∙ ap (λ l. t ∷ l) (expanded_items rest)

-- each train taken once
abbrev pub once : ℕ → Item
once t = record { train = t; count = 1 }

pub expanded_once : (list : List ℕ) → expanded (map once list) ≡ list
expanded_once [] = refl
expanded_once (t ∷ list) = ap (λ l. t ∷ l) (expanded_once list)

module _ (plant : Plant) where
  abbrev names_known : Item → Bool
  names_known item = is_known_train plant item.train

  known_with : (t : ℕ) (items : List Item) → is_known_train plant t ≡ true → list_all names_known items ≡ true → list_all names_known (with_train t items) ≡ true
  known_with t [] known all = and_from (is_known_train plant t) true known refl
  known_with t (item ∷ items) known all =
      let P : List Item → Type 0 = λ xs. list_all names_known xs ≡ true in
      let more : List Item = record { train = t; count = suc item.count } ∷ items in
      let fewer : List Item = record { train = t; count = 1 } ∷ item ∷ items in
      ⊎_elim
      (λ same. subst P (sym (cond-true (eqb item.train t) more fewer same)) (and_from (is_known_train plant t) (list_all names_known items) known (and_parts (names_known item) (list_all names_known items) all).1))
      (λ other. subst P (sym (cond-false (eqb item.train t) more fewer other)) (and_from (is_known_train plant t) (list_all names_known (item ∷ items)) known all))
      (cases_Bool (eqb item.train t))

  known_items : (list : List ℕ) → list_all (is_known_train plant) list ≡ true → list_all names_known (items_of list) ≡ true
  known_items [] all = refl
  known_items (t ∷ rest) all =
      let both = and_parts (is_known_train plant t) (list_all (is_known_train plant) rest) all in
      known_with t (items_of rest) both.0 (known_items rest both.1)

  small_by : (items : List Item) → list_all names_known items ≡ true → length (expanded items) < 65536 → list_all (is_small_item plant) items ≡ true
  small_by [] known few = refl
  small_by (item ∷ items) known few =
      let both = and_parts (names_known item) (list_all names_known items) known in
      let long = length-append (replicate item.count item.train) (expanded items) in
      let count = length-replicate item.count item.train in
      and_from (is_small_item plant item) (list_all (is_small_item plant) items)
      (and_from (names_known item) (is_small item.count) both.0 (lt-ltb item.count 65536 (omega (arith, few, long, count))))
      (small_by items both.1 (omega (arith, few, long)))

  -- a fresh list as items
  pub few_trains : (list : List ℕ) → is_fresh_list list ≡ true → length list ≤ LIST_TRAINS
  few_trains list fresh = leb-true (length list) LIST_TRAINS (and_parts (nat_lt 0 (length list)) (nat_le (length list) LIST_TRAINS) fresh).1

  pub small_items : (list : List ℕ) → list_all (is_known_train plant) list ≡ true → is_fresh_list list ≡ true → list_all (is_small_item plant) (items_of list) ≡ true
  small_items list known fresh = small_by (items_of list) (known_items list known) (omega (arith, ap (length {A = ℕ}) (expanded_items list), few_trains list fresh))

  -- the trains of an end line as items
  pub small_once : (list : List ℕ) → list_all (is_known_train plant) list ≡ true → list_all (is_small_item plant) (map once list) ≡ true
  small_once [] known = refl
  small_once (t ∷ list) known =
      let both = and_parts (is_known_train plant t) (list_all (is_known_train plant) list) known in
      and_from (is_small_item plant (once t)) (list_all (is_small_item plant) (map once list)) (and_from (is_known_train plant t) true both.0 refl) (small_once list both.1)

  pub once_words : (list : List ℕ) → map (item_word plant) (map once list) ≡ map (train_word plant) list
  once_words [] = refl
  once_words (t ∷ list) = let first = append-nil (train_word plant t) in let rest = once_words list in λ i. first i ∷ rest i

  pub many_bytes : IsNamed plant → (list : List ℕ) → list_all (is_known_train plant) list ≡ true → length list ≤ length (joined (map (train_word plant) list))
  many_bytes named [] known = omega arith
  many_bytes named (t ∷ []) known = some_byte plant named t (and_parts (is_known_train plant t) true known).0
    where
      some_byte : (plant : Plant) → IsNamed plant → (t : ℕ) → is_known_train plant t ≡ true → 1 ≤ length (train_word plant t)
      some_byte plant named t known =
          let name : List ℕ = train_word plant t in
          let long = and_parts _ (list_all is_name_byte name) (named.train_name t (ltb-true t (trains plant) known)) in
          ltb-true 0 (length name) (and_parts (nat_lt 0 (length name)) _ long.0).0
  many_bytes named (t ∷ u ∷ list) known =
      let both = and_parts (is_known_train plant t) (list_all (is_known_train plant) (u ∷ list)) known in
      omega (arith, many_bytes named (u ∷ list) both.1, length-append (train_word plant t) (32 ∷ joined (map (train_word plant) (u ∷ list))))

  -- a line without a list
  bare_trains : (line : Line) → is_bare line ≡ true → [] ≡ line.trains
  bare_trains line bare = sym (nil_from_length line.trains (eqb-true (length line.trains) 0 bare))

  pub no_list : (line : Line) (what : What) → ((t m : ℕ) (note : Note) → what ≡ Admit t m note → ⊥) → (what ≡ End → ⊥) → is_writable_what plant line what ≡ true → brought what [] ≡ line.trains
  no_list line (Free x t) a e w = bare_trains line (and_parts _ (is_bare line) w).1
  no_list line (Arrive t m) a e w = bare_trains line (and_parts _ (is_bare line) w).1
  no_list line (Enter t m x) a e w = bare_trains line (and_parts _ (is_bare line) w).1
  no_list line (Out t) a e w = bare_trains line (and_parts _ (is_bare line) w).1
  no_list line (Ready t m) a e w = bare_trains line (and_parts _ (is_bare line) w).1
  no_list line (Told k) a e w = bare_trains line (and_parts _ (is_bare line) w).1
  no_list line (Untold k) a e w = bare_trains line (and_parts _ (is_bare line) w).1
  no_list line (Admit t m note) a e w = absurd (a t m note refl)
  no_list line (Hold t m why) a e w = bare_trains line (and_parts _ (is_bare line) w).1
  no_list line End a e w = absurd (e refl)

-- the trains of a text that has the items of a list
abbrev pub AreLikely : Names → List ℕ → ℕ → List ℕ → Type 0
AreLikely names text most list = (plant : Plant) → HasNames plant names → IsNamed plant → (items : List Item)
    → list_all (is_small_item plant) items ≡ true → length (expanded items) ≤ most
    → text ≡ joined (map (item_word plant) items) → list ≡ expanded items

-- what a text behind a space says, by its words
abbrev pub IsCut : List ℕ → ℕ → List ℕ → Type 0
IsCut said count text = (words : List (List ℕ)) → list_all is_spaceless words ≡ true → said ≡ joined words → text ≡ joined (drop count (drop 1 words))

module _ (names : Names) (text list : List ℕ) where
  pub noted_fresh : AreLikely names text LIST_TRAINS list → AreNotedTrains names Fresh text list
  noted_fresh likely = λ plant has named line writable fresh same.
      let known = (and_parts (list_all (is_known_train plant) line.trains) (does_fit_counter (length line.trains)) writable).0 in
      likely plant has named (items_of line.trains) (small_items plant line.trains known fresh) (omega (arith, ap (length {A = ℕ}) (expanded_items line.trains), few_trains plant line.trains fresh)) same ∙ expanded_items line.trains

  pub noted_pulled : AreNotedTrains names Pulled text list
  noted_pulled = λ plant has named line writable fresh same. bare_trains plant line writable

  pub noted_appended : AreNotedTrains names Appended text list
  noted_appended = λ plant has named line writable fresh same. bare_trains plant line writable

  pub listed_admit : (said : List ℕ) (t m : ℕ) (note : Note) → IsCut said 3 text → AreNotedTrains names note text list → AreLikelyTrains names (Admit t m note) said list
  listed_admit said t m note cuts noted = λ plant has named line writable within same.
      noted plant has named line (and_parts (is_known_move plant t m) (is_writable_note plant line note) writable).1 within
      (cuts (what_words plant line (Admit t m note)) (what_spaceless plant named line (Admit t m note) writable) same)

  pub listed_end : (said : List ℕ) → IsCut said 0 text → AreLikely names text (length text) list → AreLikelyTrains names End said list
  listed_end said cuts likely = λ plant has named line writable within same.
      let spelled : text ≡ joined (map (train_word plant) line.trains) = cuts (what_words plant line End) (what_spaceless plant named line End writable) same in
      likely plant has named (map once line.trains) (small_once plant line.trains writable)
      (omega (arith, ap (length {A = ℕ}) (expanded_once line.trains), ap (length {A = ℕ}) spelled, many_bytes plant named line.trains writable))
      (spelled ∙ ap joined (sym (once_words plant line.trains)))
      ∙ expanded_once line.trains
