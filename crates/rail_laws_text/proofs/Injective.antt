-- Two lines with one text are one line, and two histories with one text are one history.
use Rattle.std.proofs.Common.{◌≡◌, ℕ, suc, ◌<◌, ◌^◌, Bool, true, false, ◌&&◌, cond, eqb, leb, List, [], ◌∷◌, ◌++◌, length, drop, map, replicate, decimal, refl, sym, ap, ◌∙◌, subst, ⊎_elim, arith, append_assoc, length-append}
use Rattle.std.specs.List.{list_any, list_all}
use Rattle.std.proofs.lemmas.Bool.{cases_Bool, and_parts, eqb-true, ltb-true, leb-true, cond-true, cond-false}
use Rattle.std.proofs.lemmas.List.{append_cancel_right}
use Rattle.rail_base.specs.Clock.{time_text}
use Rattle.rail_base.specs.declared.history.What.{What}
use Rattle.rail_base.specs.declared.history.What.TheVariants.{Free, Arrive, Enter, Out, Ready, Told, Untold, Admit, Hold, End}
use Rattle.rail_base.specs.declared.history.Note.{Note}
use Rattle.rail_base.specs.declared.history.Note.TheVariants.{Pulled, Appended, Fresh}
use Rattle.rail_base.proofs.CallerLemmas.{time_text-injective}
use Rattle.rail_rules.specs.Plant.{Plant, trains}
use Rattle.rail_rules.specs.Fronts.{Line, Front}
use Rattle.rail_rules.specs.Lawful.{is_bare}
use Rattle.rail_rules.specs.Texts.{Item, with_train, items_of, train_word, item_word, what_words, line_words, line_text, text}
use Rattle.rail_rules.specs.WritableLines.{does_fit_counter, is_known_train, is_known_section, is_known_move, is_writable_cause, is_writable_note, is_writable_what, is_writable, IsNamed}
use Rattle.rail_laws_text.proofs.Marks.{is_feed, heads, tails, begins, ends, ends_with, split_left, split_right, joined, spaced-joined, joined_no_feed, words_back}
use Rattle.rail_laws_text.proofs.Wording.{number_back, read_on, name_free, is_item_in_range, items_fine, line_are_words}
use Rattle.rail_laws_text.proofs.Back.{what_back, what_is}

-- a list comes back from its items
expanded : List Item → List ℕ
expanded [] = []
expanded (item ∷ items) = replicate item.count item.train ++ expanded items

expanded_with : (t : ℕ) (items : List Item) → expanded (with_train t items) ≡ t ∷ expanded items
unfolding expanded
expanded_with t [] = refl
expanded_with t (item ∷ items) =
    let more : List Item = record { train = t; count = suc item.count } ∷ items in
    let fewer : List Item = record { train = t; count = 1 } ∷ item ∷ items in
    ⊎_elim
    (λ same. ap expanded (cond-true (eqb item.train t) more fewer same) ∙ ap (λ u. t ∷ (replicate item.count u ++ expanded items)) (sym (eqb-true item.train t same)))
    (λ other. ap expanded (cond-false (eqb item.train t) more fewer other))
    (cases_Bool (eqb item.train t))

expanded_items : (list : List ℕ) → expanded (items_of list) ≡ list
unfolding expanded
expanded_items [] = refl
expanded_items (t ∷ rest) = expanded_with t (items_of rest) ∙ ap (λ l. t ∷ l) (expanded_items rest)

is_star : ℕ → Bool
is_star c = eqb c 42

module _ (plant : Plant) (named : IsNamed plant) where
  train_same : (t u : ℕ) → is_known_train plant t ≡ true → is_known_train plant u ≡ true → train_word plant t ≡ train_word plant u → t ≡ u
  train_same t u kt ku e = named.train_of t u (ltb-true t (trains plant) kt) (ltb-true u (trains plant) ku) e

  no_star : (t : ℕ) → is_known_train plant t ≡ true → list_any is_star (train_word plant t) ≡ false
  unfolding is_star
  no_star t known = name_free 42 refl (train_word plant t) (named.train_name t (ltb-true t (trains plant) known))

  tail_word : ℕ → List ℕ
  tail_word count = cond (eqb count 1) [] (42 ∷ decimal count)

  tail_begins : (count : ℕ) → begins is_star (tail_word count) ≡ true
  unfolding tail_word is_star
  tail_begins count =
      let P : List ℕ → Type 0 = λ w. begins is_star w ≡ true in
      ⊎_elim
      (λ one. subst P (sym (cond-true (eqb count 1) [] (42 ∷ decimal count) one)) refl)
      (λ more. subst P (sym (cond-false (eqb count 1) [] (42 ∷ decimal count) more)) refl)
      (cases_Bool (eqb count 1))

  count_same : (a b : ℕ) → a < 2 ^ 64 → b < 2 ^ 64 → tail_word a ≡ tail_word b → a ≡ b
  unfolding tail_word
  count_same a b fits_a fits_b e =
      ⊎_elim
      (λ one_a. ⊎_elim
      (λ one_b. eqb-true a 1 one_a ∙ sym (eqb-true b 1 one_b))
      (λ more_b. absurd (nothing_some b (sym (cond-true (eqb a 1) [] (42 ∷ decimal a) one_a) ∙ e ∙ cond-false (eqb b 1) [] (42 ∷ decimal b) more_b)))
      (cases_Bool (eqb b 1)))
      (λ more_a. ⊎_elim
      (λ one_b. absurd (nothing_some a (sym (cond-true (eqb b 1) [] (42 ∷ decimal b) one_b) ∙ sym e ∙ cond-false (eqb a 1) [] (42 ∷ decimal a) more_a)))
      (λ more_b.
      let digits = tails 42 42 (decimal a) (decimal b) (sym (cond-false (eqb a 1) [] (42 ∷ decimal a) more_a) ∙ e ∙ cond-false (eqb b 1) [] (42 ∷ decimal b) more_b) in
      sym (number_back a fits_a) ∙ ap (read_on 0) digits ∙ number_back b fits_b)
      (cases_Bool (eqb b 1)))
      (cases_Bool (eqb a 1))
    where
      nothing_some : (n : ℕ) → [] ≡ 42 ∷ decimal n → ⊥
      nothing_some n e = omega (arith, ap (length {A = ℕ}) e)

  item_same : (n m : ℕ) → n < 2 ^ 64 → m < 2 ^ 64 → (a b : Item) → is_item_in_range plant n a ≡ true → is_item_in_range plant m b ≡ true → item_word plant a ≡ item_word plant b → a ≡ b
  unfolding tail_word
  item_same n m fits_n fits_m a b fine_a fine_b e =
      let pa = and_parts (is_known_train plant a.train) (leb a.count n) fine_a in
      let pb = and_parts (is_known_train plant b.train) (leb b.count m) fine_b in
      let parts = split_left is_star (train_word plant a.train) (train_word plant b.train) (tail_word a.count) (tail_word b.count) (no_star a.train pa.0) (no_star b.train pb.0) (tail_begins a.count) (tail_begins b.count) e in
      let same_train = train_same a.train b.train pa.0 pb.0 parts.0 in
      let same_count = count_same a.count b.count (omega (arith, fits_n, leb-true a.count n pa.1)) (omega (arith, fits_m, leb-true b.count m pb.1)) parts.1 in
      λ i. record { train = same_train i; count = same_count i }

  items_same : (n m : ℕ) → n < 2 ^ 64 → m < 2 ^ 64 → (xs ys : List Item) → list_all (is_item_in_range plant n) xs ≡ true → list_all (is_item_in_range plant m) ys ≡ true → map (item_word plant) xs ≡ map (item_word plant) ys → xs ≡ ys
  items_same n m fits_n fits_m [] [] fine_x fine_y e = refl
  items_same n m fits_n fits_m [] (y ∷ ys) fine_x fine_y e = absurd (omega (arith, ap (length {A = List ℕ}) e))
  items_same n m fits_n fits_m (x ∷ xs) [] fine_x fine_y e = absurd (omega (arith, ap (length {A = List ℕ}) e))
  items_same n m fits_n fits_m (x ∷ xs) (y ∷ ys) fine_x fine_y e =
      let px = and_parts (is_item_in_range plant n x) (list_all (is_item_in_range plant n) xs) fine_x in
      let py = and_parts (is_item_in_range plant m y) (list_all (is_item_in_range plant m) ys) fine_y in
      let first = item_same n m fits_n fits_m x y px.0 py.0 (heads [] (item_word plant x) (item_word plant y) (map (item_word plant) xs) (map (item_word plant) ys) e) in
      let rest = items_same n m fits_n fits_m xs ys px.1 py.1 (tails (item_word plant x) (item_word plant y) (map (item_word plant) xs) (map (item_word plant) ys) e) in
      λ i. first i ∷ rest i

  list_same : (xs ys : List ℕ) → list_all (is_known_train plant) xs ≡ true → list_all (is_known_train plant) ys ≡ true → map (train_word plant) xs ≡ map (train_word plant) ys → xs ≡ ys
  list_same [] [] kx ky e = refl
  list_same [] (y ∷ ys) kx ky e = absurd (omega (arith, ap (length {A = List ℕ}) e))
  list_same (x ∷ xs) [] kx ky e = absurd (omega (arith, ap (length {A = List ℕ}) e))
  list_same (x ∷ xs) (y ∷ ys) kx ky e =
      let px = and_parts (is_known_train plant x) (list_all (is_known_train plant) xs) kx in
      let py = and_parts (is_known_train plant y) (list_all (is_known_train plant) ys) ky in
      let first = train_same x y px.0 py.0 (heads [] (train_word plant x) (train_word plant y) (map (train_word plant) xs) (map (train_word plant) ys) e) in
      let rest = list_same xs ys px.1 py.1 (tails (train_word plant x) (train_word plant y) (map (train_word plant) xs) (map (train_word plant) ys) e) in
      λ i. first i ∷ rest i

  nothing : (xs : List ℕ) → eqb (length xs) 0 ≡ true → xs ≡ []
  nothing [] h = refl
  nothing (x ∷ xs) h = absurd (omega (arith, eqb-true (suc (length xs)) 0 h))

  bare_same : (a b : Line) → is_bare a ≡ true → is_bare b ≡ true → a.trains ≡ b.trains
  bare_same a b ha hb = nothing a.trains ha ∙ sym (nothing b.trains hb)

  note_same : (a b : Line) (t m : ℕ) (note : Note) → is_writable_note plant a note ≡ true → is_writable_note plant b note ≡ true → what_words plant a (Admit t m note) ≡ what_words plant b (Admit t m note) → a.trains ≡ b.trains
  note_same a b t m Pulled ha hb e = bare_same a b ha hb
  note_same a b t m Appended ha hb e = bare_same a b ha hb
  note_same a b t m Fresh ha hb e =
      let pa = and_parts (list_all (is_known_train plant) a.trains) (does_fit_counter (length a.trains)) ha in
      let pb = and_parts (list_all (is_known_train plant) b.trains) (does_fit_counter (length b.trains)) hb in
      let items : items_of a.trains ≡ items_of b.trains =
      items_same (length a.trains) (length b.trains) (ltb-true (length a.trains) (2 ^ 64) pa.1) (ltb-true (length b.trains) (2 ^ 64) pb.1) (items_of a.trains) (items_of b.trains) (items_fine plant a.trains pa.0) (items_fine plant b.trains pb.0) (ap (drop 4) e) in
      sym (expanded_items a.trains) ∙ ap expanded items ∙ expanded_items b.trains

  trains_same : (a b : Line) (what : What) → is_writable_what plant a what ≡ true → is_writable_what plant b what ≡ true → what_words plant a what ≡ what_words plant b what → a.trains ≡ b.trains
  trains_same a b (Free x t) ha hb e = bare_same a b (and_parts (is_known_section plant x && is_known_train plant t) (is_bare a) ha).1 (and_parts (is_known_section plant x && is_known_train plant t) (is_bare b) hb).1
  trains_same a b (Arrive t m) ha hb e = bare_same a b (and_parts (is_known_move plant t m) (is_bare a) ha).1 (and_parts (is_known_move plant t m) (is_bare b) hb).1
  trains_same a b (Enter t m x) ha hb e = bare_same a b (and_parts (is_known_move plant t m && is_known_section plant x) (is_bare a) ha).1 (and_parts (is_known_move plant t m && is_known_section plant x) (is_bare b) hb).1
  trains_same a b (Out t) ha hb e = bare_same a b (and_parts (is_known_train plant t) (is_bare a) ha).1 (and_parts (is_known_train plant t) (is_bare b) hb).1
  trains_same a b (Ready t m) ha hb e = bare_same a b (and_parts (is_known_move plant t m) (is_bare a) ha).1 (and_parts (is_known_move plant t m) (is_bare b) hb).1
  trains_same a b (Told k) ha hb e = bare_same a b (and_parts (does_fit_counter k) (is_bare a) ha).1 (and_parts (does_fit_counter k) (is_bare b) hb).1
  trains_same a b (Untold k) ha hb e = bare_same a b (and_parts (does_fit_counter k) (is_bare a) ha).1 (and_parts (does_fit_counter k) (is_bare b) hb).1
  trains_same a b (Admit t m note) ha hb e = note_same a b t m note (and_parts (is_known_move plant t m) (is_writable_note plant a note) ha).1 (and_parts (is_known_move plant t m) (is_writable_note plant b note) hb).1 e
  trains_same a b (Hold t m why) ha hb e = bare_same a b (and_parts (is_known_move plant t m && is_writable_cause plant why) (is_bare a) ha).1 (and_parts (is_known_move plant t m && is_writable_cause plant why) (is_bare b) hb).1
  trains_same a b End ha hb e = list_same a.trains b.trains ha hb (ap (drop 1) e)

  words_same : (a b : Line) → is_writable plant a ≡ true → is_writable plant b ≡ true → line_words plant a ≡ line_words plant b → a ≡ b
  words_same a b ha hb e =
      let pa = and_parts (does_fit_counter a.entry.at) (is_writable_what plant a a.entry.what) ha in
      let pb = and_parts (does_fit_counter b.entry.at) (is_writable_what plant b b.entry.what) hb in
      let wa : List (List ℕ) = what_words plant a a.entry.what in
      let wb : List (List ℕ) = what_words plant b b.entry.what in
      let time : a.entry.at ≡ b.entry.at = time_text-injective a.entry.at b.entry.at (ltb-true a.entry.at (2 ^ 64) pa.0) (ltb-true b.entry.at (2 ^ 64) pb.0) (heads [] (time_text a.entry.at) (time_text b.entry.at) wa wb e) in
      let words : wa ≡ wb = tails (time_text a.entry.at) (time_text b.entry.at) wa wb e in
      let what : a.entry.what ≡ b.entry.what = sym (what_is plant named a a.entry.what pa.1) ∙ ap (what_back plant) words ∙ what_is plant named b b.entry.what pb.1 in
      let P : What → Type 0 = λ w. is_writable_what plant b w ≡ true in
      let Q : What → Type 0 = λ w. wa ≡ what_words plant b w in
      let list : a.trains ≡ b.trains = trains_same a b a.entry.what pa.1 (subst P (sym what) pb.1) (subst Q (sym what) words) in
      λ i. record { entry = record { at = time i; what = what i }; trains = list i }

  pub line_same : (a b : Line) → is_writable plant a ≡ true → is_writable plant b ≡ true → line_text plant a ≡ line_text plant b → a ≡ b
  line_same a b ha hb e =
      let bodies : joined (line_words plant a) ≡ joined (line_words plant b) =
      append_cancel_right (joined (line_words plant a)) (joined (line_words plant b)) (10 ∷ []) (sym (spaced-joined (line_words plant a)) ∙ e ∙ spaced-joined (line_words plant b)) in
      let parts = words_back (what_words plant a a.entry.what) (what_words plant b b.entry.what) (time_text a.entry.at) (time_text b.entry.at) (line_are_words plant named a ha) (line_are_words plant named b hb) bodies in
      words_same a b ha hb (λ i. parts.0 i ∷ parts.1 i)

  text_ends : (front : Front) → ends is_feed (text plant front) ≡ true
  text_ends [] = refl
  text_ends (line ∷ before) =
      let words : List (List ℕ) = line_words plant line in
      ap (ends is_feed) (ap (λ l. text plant before ++ l) (spaced-joined words) ∙ sym (append_assoc (text plant before) (joined words) (10 ∷ [])))
      ∙ ends_with is_feed 10 refl (text plant before ++ joined words)

  some_text : (line : Line) (before : Front) → text plant (line ∷ before) ≡ [] → ⊥
  some_text line before e =
      let words : List (List ℕ) = line_words plant line in
      omega (arith, ap (length {A = ℕ}) e, length-append (text plant before) (line_text plant line), ap (length {A = ℕ}) (spaced-joined words), length-append (joined words) (10 ∷ []))

  pub text_same : (f g : Front) → list_all (is_writable plant) f ≡ true → list_all (is_writable plant) g ≡ true → text plant f ≡ text plant g → f ≡ g
  text_same [] [] hf hg e = refl
  text_same [] (b ∷ g) hf hg e = absurd (some_text b g (sym e))
  text_same (a ∷ f) [] hf hg e = absurd (some_text a f e)
  text_same (a ∷ f) (b ∷ g) hf hg e =
      let pa = and_parts (is_writable plant a) (list_all (is_writable plant) f) hf in
      let pb = and_parts (is_writable plant b) (list_all (is_writable plant) g) hg in
      let ja : List ℕ = joined (line_words plant a) in
      let jb : List ℕ = joined (line_words plant b) in
      let whole_a : text plant f ++ line_text plant a ≡ (text plant f ++ ja) ++ 10 ∷ [] = ap (λ l. text plant f ++ l) (spaced-joined (line_words plant a)) ∙ sym (append_assoc (text plant f) ja (10 ∷ [])) in
      let whole_b : text plant g ++ line_text plant b ≡ (text plant g ++ jb) ++ 10 ∷ [] = ap (λ l. text plant g ++ l) (spaced-joined (line_words plant b)) ∙ sym (append_assoc (text plant g) jb (10 ∷ [])) in
      let cut : text plant f ++ ja ≡ text plant g ++ jb = append_cancel_right (text plant f ++ ja) (text plant g ++ jb) (10 ∷ []) (sym whole_a ∙ e ∙ whole_b) in
      let parts = split_right is_feed (text plant f) (text plant g) ja jb
      (joined_no_feed (line_words plant a) (line_are_words plant named a pa.0)) (joined_no_feed (line_words plant b) (line_are_words plant named b pb.0))
      (text_ends f) (text_ends g) cut in
      let rest : f ≡ g = text_same f g pa.1 pb.1 parts.0 in
      let words = words_back (what_words plant a a.entry.what) (what_words plant b b.entry.what) (time_text a.entry.at) (time_text b.entry.at) (line_are_words plant named a pa.0) (line_are_words plant named b pb.0) parts.1 in
      let first : a ≡ b = words_same a b pa.0 pb.0 (λ i. words.0 i ∷ words.1 i) in
      λ i. first i ∷ rest i
