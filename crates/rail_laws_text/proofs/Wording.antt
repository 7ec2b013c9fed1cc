-- The words of a line hold neither spaces nor line feeds.
use Rattle.std.proofs.Common.{◌≡◌, ℕ, suc, ◌+◌, ◌*◌, ◌-◌, ◌/◌, ◌%◌, ◌<◌, ◌≤◌, ◌^◌, Bool, true, false, ◌&&◌, cond, eqb, leb, List, [], ◌∷◌, ◌++◌, length, map, codes, decimal, refl, sym, ◌∙◌, subst, ⊎_elim, arith, rules}
use Rattle.std.specs.List.{list_any, list_all}
use Rattle.std.specs.Char.{is_ascii_digit}
use Rattle.std.specs.Str.{all_ascii_digits}
use Rattle.std.proofs.lemmas.Bool.{cases_Bool, false≢true, and_parts, or_from, eqb-true, ne_eqb, ltb-true, leb-true, le-leb, and_from, cond-true, cond-false, false_from_ne_true}
use Rattle.std.proofs.lemmas.Fmt.{digits_decimal, digits_value-decimal}
use Rattle.std.proofs.lemmas.Str.Parse.{IsNumeralModel, numerals_by_fold}
use Rattle.rail_base.specs.NameForms.{is_name, is_name_byte}
use Rattle.rail_base.specs.Clock.{two_digits, hours_text, time_text}
use Rattle.rail_base.specs.declared.history.What.{What}
use Rattle.rail_base.specs.declared.history.What.TheVariants.{Free, Arrive, Enter, Out, Ready, Told, Untold, Admit, Hold, End}
use Rattle.rail_base.specs.declared.history.Note.{Note}
use Rattle.rail_base.specs.declared.history.Note.TheVariants.{Pulled, Appended, Fresh}
use Rattle.rail_base.specs.declared.history.Cause.{Cause}
use Rattle.rail_base.specs.declared.history.Cause.TheVariants.{Stopped, Closed, Blocked, NoList}
use Rattle.rail_base.proofs.CallerLemmas.{hours_cases}
use Rattle.rail_rules.specs.Plant.{Plant, trains}
use Rattle.rail_rules.specs.Fronts.{Line}
use Rattle.rail_rules.specs.Lawful.{is_bare}
use Rattle.rail_rules.specs.Texts.{Item, with_train, items_of, train_word, section_word, item_word, note_words, cause_words, what_words, line_words}
use Rattle.rail_rules.specs.WritableLines.{does_fit_counter, is_known_train, is_known_section, is_known_move, is_writable_cause, is_writable_note, is_writable_what, is_writable, IsNamed}
use Rattle.rail_laws_text.proofs.Marks.{IsWord, AreWords, is_space, is_feed, none_of, none_in_both}
use Rattle.rail_laws_text.proofs.Marks.AreWords.{none, one_more}

-- digits, read as a number
abbrev pub read_on : ℕ → List ℕ → ℕ
read_on n [] = n
read_on n (c ∷ cs) = read_on (10 * n + (c - 48)) cs

own : IsNumeralModel (λ ds. all_ascii_digits ds ≡ true) (read_on 0)
own = numerals_by_fold _ (search rules) read_on (search rules)

-- a number is read back from its digits
pub number_back : (n : ℕ) → n < 2 ^ 64 → read_on 0 (decimal n) ≡ n
number_back n fits = digits_value-decimal own n fits

not_this : (p : ℕ → Bool) (b c : ℕ) → p b ≡ false → p c ≡ true → eqb c b ≡ false
not_this p b c out passes =
    let P : ℕ → Type 0 = λ x. p x ≡ true in
    false_from_ne_true (eqb c b) (λ same. false≢true (sym out ∙ subst P (eqb-true c b same) passes))

digits_free : (b : ℕ) → is_ascii_digit b ≡ false → (ds : List ℕ) → all_ascii_digits ds ≡ true → list_any (λ c. eqb c b) ds ≡ false
digits_free b out [] all = refl
digits_free b out (c ∷ cs) all =
    let both = and_parts (is_ascii_digit c) (all_ascii_digits cs) all in
    or_from (eqb c b) (list_any (λ x. eqb x b) cs) (not_this is_ascii_digit b c out both.0) (digits_free b out cs both.1)

pub decimal_free : (b : ℕ) → is_ascii_digit b ≡ false → (n : ℕ) → n < 2 ^ 64 → list_any (λ c. eqb c b) (decimal n) ≡ false
decimal_free b out n fits = digits_free b out (decimal n) (digits_decimal own n fits)

pub name_free : (b : ℕ) → is_name_byte b ≡ false → (w : List ℕ) → is_name w ≡ true → list_any (λ c. eqb c b) w ≡ false
name_free b out w named = none_of is_name_byte (λ c. eqb c b) (λ c passes. not_this is_name_byte b c out passes) w (and_parts _ (list_all is_name_byte w) named).1

pub decimal_word : (n : ℕ) → n < 2 ^ 64 → IsWord (decimal n)
decimal_word n fits = record { no_space = decimal_free 32 refl n fits; no_feed = decimal_free 10 refl n fits }

pub name_word : (w : List ℕ) → is_name w ≡ true → IsWord w
name_word w named = record { no_space = name_free 32 refl w named; no_feed = name_free 10 refl w named }

-- the text of a time
two_free : (b : ℕ) → b < 46 → (mark n : ℕ) → 46 ≤ mark → list_any (λ c. eqb c b) (mark ∷ two_digits n) ≡ false
two_free b low mark n high =
    let other : (c : ℕ) → 46 ≤ c → eqb c b ≡ false = λ c above. ne_eqb c b (λ e. omega (arith, low, above, e)) in
    let any : List ℕ → Bool = list_any (λ c. eqb c b) in
    or_from (eqb mark b) (any (two_digits n)) (other mark high)
    (or_from (eqb (48 + n / 10) b) (any ((48 + n % 10) ∷ [])) (other (48 + n / 10) (omega arith))
    (or_from (eqb (48 + n % 10) b) (any []) (other (48 + n % 10) (omega arith)) refl))

one_free : (b : ℕ) → b < 46 → (t : ℕ) → list_any (λ c. eqb c b) (46 ∷ (48 + t) ∷ []) ≡ false
one_free b low t =
    let other : (c : ℕ) → 46 ≤ c → eqb c b ≡ false = λ c above. ne_eqb c b (λ e. omega (arith, low, above, e)) in
    let any : List ℕ → Bool = list_any (λ c. eqb c b) in
    or_from (eqb 46 b) (any ((48 + t) ∷ [])) (other 46 (omega arith)) (or_from (eqb (48 + t) b) (any []) (other (48 + t) (omega arith)) refl)

parts_free : (b : ℕ) → b < 46 → (hours : List ℕ) (minutes seconds t : ℕ) → list_any (λ c. eqb c b) hours ≡ false → list_any (λ c. eqb c b) (hours ++ 58 ∷ two_digits minutes ++ 58 ∷ two_digits seconds ++ 46 ∷ (48 + t) ∷ []) ≡ false
parts_free b low hours minutes seconds t free =
    none_in_both (λ c. eqb c b) (hours ++ 58 ∷ two_digits minutes ++ 58 ∷ two_digits seconds) (46 ∷ (48 + t) ∷ [])
    (none_in_both (λ c. eqb c b) (hours ++ 58 ∷ two_digits minutes) (58 ∷ two_digits seconds)
    (none_in_both (λ c. eqb c b) hours (58 ∷ two_digits minutes) free (two_free b low 58 minutes (omega arith)))
    (two_free b low 58 seconds (omega arith)))
    (one_free b low t)

time_free : (b : ℕ) → b < 46 → is_ascii_digit b ≡ false → (time : ℕ) → time < 2 ^ 64 → list_any (λ c. eqb c b) (time_text time) ≡ false
time_free b low out time fits =
    let hours : ℕ = time / 36000 in
    let fits_hours : hours < 2 ^ 64 = omega (arith, fits) in
    let digits = decimal_free b out hours fits_hours in
    parts_free b low (hours_text hours) (time / 600 % 60) (time / 10 % 60) (time % 10)
    (hours_cases (λ ds. list_any (λ c. eqb c b) ds ≡ false) hours
    (or_from (eqb 48 b) (list_any (λ c. eqb c b) (decimal hours)) (ne_eqb 48 b (λ e. omega (arith, low, e))) digits)
    digits)

pub time_word : (time : ℕ) → time < 2 ^ 64 → IsWord (time_text time)
time_word time fits = record { no_space = time_free 32 (omega arith) refl time fits; no_feed = time_free 10 (omega arith) refl time fits }

both_word : (w v : List ℕ) → IsWord w → IsWord v → IsWord (w ++ v)
both_word w v iw iv = record { no_space = none_in_both is_space w v iw.no_space iv.no_space; no_feed = none_in_both is_feed w v iw.no_feed iv.no_feed }

key : (w : List ℕ) → list_any (λ c. eqb c 32) w ≡ false → list_any (λ c. eqb c 10) w ≡ false → IsWord w
key w s f = record { no_space = s; no_feed = f }

-- items of known trains, with counts in range
abbrev pub is_item_in_range : Plant → ℕ → Item → Bool
is_item_in_range plant most item = is_known_train plant item.train && leb item.count most

more_fine : (plant : Plant) (n : ℕ) (items : List Item) → list_all (is_item_in_range plant n) items ≡ true → list_all (is_item_in_range plant (suc n)) items ≡ true
more_fine plant n [] all = refl
more_fine plant n (item ∷ items) all =
    let both = and_parts (is_item_in_range plant n item) (list_all (is_item_in_range plant n) items) all in
    let one = and_parts (is_known_train plant item.train) (leb item.count n) both.0 in
    and_from (is_item_in_range plant (suc n) item) (list_all (is_item_in_range plant (suc n)) items)
    (and_from (is_known_train plant item.train) (leb item.count (suc n)) one.0 (le-leb item.count (suc n) (omega (arith, leb-true item.count n one.1))))
    (more_fine plant n items both.1)

pub items_fine : (plant : Plant) (list : List ℕ) → list_all (is_known_train plant) list ≡ true → list_all (is_item_in_range plant (length list)) (items_of list) ≡ true
items_fine plant [] all = refl
items_fine plant (t ∷ rest) all =
    let both = and_parts (is_known_train plant t) (list_all (is_known_train plant) rest) all in
    with_one t (length rest) (items_of rest) both.0 (items_fine plant rest both.1)
  where
    with_one : (t n : ℕ) (items : List Item) → is_known_train plant t ≡ true → list_all (is_item_in_range plant n) items ≡ true → list_all (is_item_in_range plant (suc n)) (with_train t items) ≡ true
    with_one t n [] known all = and_from (is_known_train plant t && leb 1 (suc n)) true (and_from (is_known_train plant t) (leb 1 (suc n)) known (le-leb 1 (suc n) (omega arith))) refl
    with_one t n (item ∷ items) known all =
        let both = and_parts (is_item_in_range plant n item) (list_all (is_item_in_range plant n) items) all in
        let one = and_parts (is_known_train plant item.train) (leb item.count n) both.0 in
        let P : List Item → Type 0 = λ xs. list_all (is_item_in_range plant (suc n)) xs ≡ true in
        ⊎_elim
        (λ same. subst P (sym (cond-true (eqb item.train t) (record { train = t; count = suc item.count } ∷ items) (record { train = t; count = 1 } ∷ item ∷ items) same))
        (and_from (is_known_train plant t && leb (suc item.count) (suc n)) (list_all (is_item_in_range plant (suc n)) items)
        (and_from (is_known_train plant t) (leb (suc item.count) (suc n)) known (le-leb (suc item.count) (suc n) (omega (arith, leb-true item.count n one.1))))
        (more_fine plant n items both.1)))
        (λ other. subst P (sym (cond-false (eqb item.train t) (record { train = t; count = suc item.count } ∷ items) (record { train = t; count = 1 } ∷ item ∷ items) other))
        (and_from (is_known_train plant t && leb 1 (suc n)) (list_all (is_item_in_range plant (suc n)) (item ∷ items))
        (and_from (is_known_train plant t) (leb 1 (suc n)) known (le-leb 1 (suc n) (omega arith)))
        (more_fine plant n (item ∷ items) all)))
        (cases_Bool (eqb item.train t))

pub item_is_word : (plant : Plant) → IsNamed plant → (n : ℕ) → n < 2 ^ 64 → (item : Item) → is_item_in_range plant n item ≡ true → IsWord (item_word plant item)
item_is_word plant named n fits item fine =
    let both = and_parts (is_known_train plant item.train) (leb item.count n) fine in
    let few : item.count < 2 ^ 64 = omega (arith, fits, leb-true item.count n both.1) in
    let name = name_word (train_word plant item.train) (named.train_name item.train (ltb-true item.train (trains plant) both.0)) in
    let digits = decimal_word item.count few in
    both_word (train_word plant item.train) (cond (eqb item.count 1) [] (42 ∷ decimal item.count)) name
    (⊎_elim
    (λ one. subst IsWord (sym (cond-true (eqb item.count 1) [] (42 ∷ decimal item.count) one)) (key [] refl refl))
    (λ more. subst IsWord (sym (cond-false (eqb item.count 1) [] (42 ∷ decimal item.count) more))
    (key (42 ∷ decimal item.count) (or_from (eqb 42 32) (list_any is_space (decimal item.count)) refl digits.no_space) (or_from (eqb 42 10) (list_any is_feed (decimal item.count)) refl digits.no_feed)))
    (cases_Bool (eqb item.count 1)))

items_are_words : (plant : Plant) → IsNamed plant → (n : ℕ) → n < 2 ^ 64 → (items : List Item) → list_all (is_item_in_range plant n) items ≡ true → AreWords (map (item_word plant) items)
items_are_words plant named n fits [] fine = none
items_are_words plant named n fits (item ∷ items) fine =
    let both = and_parts (is_item_in_range plant n item) (list_all (is_item_in_range plant n) items) fine in
    one_more (item_word plant item) (map (item_word plant) items) (item_is_word plant named n fits item both.0) (items_are_words plant named n fits items both.1)

trains_are_words : (plant : Plant) → IsNamed plant → (list : List ℕ) → list_all (is_known_train plant) list ≡ true → AreWords (map (train_word plant) list)
trains_are_words plant named [] known = none
trains_are_words plant named (t ∷ list) known =
    let both = and_parts (is_known_train plant t) (list_all (is_known_train plant) list) known in
    one_more (train_word plant t) (map (train_word plant) list) (name_word (train_word plant t) (named.train_name t (ltb-true t (trains plant) both.0))) (trains_are_words plant named list both.1)

-- the words after the time
module _ (plant : Plant) (named : IsNamed plant) (line : Line) where
  of_train : (t : ℕ) → is_known_train plant t ≡ true → IsWord (train_word plant t)
  of_train t known = name_word (train_word plant t) (named.train_name t (ltb-true t (trains plant) known))

  of_section : (x : ℕ) → is_known_section plant x ≡ true → IsWord (section_word plant x)
  of_section x known = name_word (section_word plant x) (named.section_name x (ltb-true x (length plant.tables.sections) known))

  of_number : (n : ℕ) → does_fit_counter n ≡ true → IsWord (decimal n)
  of_number n fits = decimal_word n (ltb-true n (2 ^ 64) fits)

  of_cause : (why : Cause) → is_writable_cause plant why ≡ true → AreWords (cause_words plant why)
  of_cause Stopped h = one_more (codes "stopped") [] (key (codes "stopped") refl refl) none
  of_cause (Closed x) h = one_more (codes "closed") (section_word plant x ∷ []) (key (codes "closed") refl refl) (one_more (section_word plant x) [] (of_section x h) none)
  of_cause (Blocked x u) h =
      let both = and_parts (is_known_section plant x) (is_known_train plant u) h in
      one_more (codes "blocked") (section_word plant x ∷ train_word plant u ∷ []) (key (codes "blocked") refl refl)
      (one_more (section_word plant x) (train_word plant u ∷ []) (of_section x both.0) (one_more (train_word plant u) [] (of_train u both.1) none))
  of_cause NoList h = one_more (codes "nolist") [] (key (codes "nolist") refl refl) none

  of_note : (note : Note) → is_writable_note plant line note ≡ true → AreWords (note_words plant line note)
  of_note Pulled h = one_more (codes "pulled") [] (key (codes "pulled") refl refl) none
  of_note Appended h = one_more (codes "appended") [] (key (codes "appended") refl refl) none
  of_note Fresh h =
      let both = and_parts (list_all (is_known_train plant) line.trains) (does_fit_counter (length line.trains)) h in
      one_more (codes "fresh") (map (item_word plant) (items_of line.trains)) (key (codes "fresh") refl refl)
      (items_are_words plant named (length line.trains) (ltb-true (length line.trains) (2 ^ 64) both.1) (items_of line.trains) (items_fine plant line.trains both.0))

  of_move : (t m : ℕ) (rest : List (List ℕ)) → is_known_move plant t m ≡ true → AreWords rest → AreWords (train_word plant t ∷ decimal m ∷ rest)
  of_move t m rest h words =
      let both = and_parts (is_known_train plant t) (does_fit_counter m) h in
      one_more (train_word plant t) (decimal m ∷ rest) (of_train t both.0) (one_more (decimal m) rest (of_number m both.1) words)

  pub of_what : (what : What) → is_writable_what plant line what ≡ true → AreWords (what_words plant line what)
  of_what (Free x t) h =
      let both = (and_parts (is_known_section plant x && is_known_train plant t) (is_bare line) h).0 in
      let two = and_parts (is_known_section plant x) (is_known_train plant t) both in
      one_more (codes "free") (section_word plant x ∷ train_word plant t ∷ []) (key (codes "free") refl refl)
      (one_more (section_word plant x) (train_word plant t ∷ []) (of_section x two.0) (one_more (train_word plant t) [] (of_train t two.1) none))
  of_what (Arrive t m) h = one_more (codes "arrive") (train_word plant t ∷ decimal m ∷ []) (key (codes "arrive") refl refl) (of_move t m [] (and_parts (is_known_move plant t m) (is_bare line) h).0 none)
  of_what (Enter t m x) h =
      let two = and_parts (is_known_move plant t m) (is_known_section plant x) (and_parts (is_known_move plant t m && is_known_section plant x) (is_bare line) h).0 in
      one_more (codes "enter") (train_word plant t ∷ decimal m ∷ section_word plant x ∷ []) (key (codes "enter") refl refl)
      (of_move t m (section_word plant x ∷ []) two.0 (one_more (section_word plant x) [] (of_section x two.1) none))
  of_what (Out t) h = one_more (codes "out") (train_word plant t ∷ []) (key (codes "out") refl refl) (one_more (train_word plant t) [] (of_train t (and_parts (is_known_train plant t) (is_bare line) h).0) none)
  of_what (Ready t m) h = one_more (codes "ready") (train_word plant t ∷ decimal m ∷ []) (key (codes "ready") refl refl) (of_move t m [] (and_parts (is_known_move plant t m) (is_bare line) h).0 none)
  of_what (Told k) h = one_more (codes "told") (decimal k ∷ []) (key (codes "told") refl refl) (one_more (decimal k) [] (of_number k (and_parts (does_fit_counter k) (is_bare line) h).0) none)
  of_what (Untold k) h = one_more (codes "untold") (decimal k ∷ []) (key (codes "untold") refl refl) (one_more (decimal k) [] (of_number k (and_parts (does_fit_counter k) (is_bare line) h).0) none)
  of_what (Admit t m note) h =
      let both = and_parts (is_known_move plant t m) (is_writable_note plant line note) h in
      one_more (codes "admit") (train_word plant t ∷ decimal m ∷ note_words plant line note) (key (codes "admit") refl refl) (of_move t m (note_words plant line note) both.0 (of_note note both.1))
  of_what (Hold t m why) h =
      let both = and_parts (is_known_move plant t m) (is_writable_cause plant why) (and_parts (is_known_move plant t m && is_writable_cause plant why) (is_bare line) h).0 in
      one_more (codes "hold") (train_word plant t ∷ decimal m ∷ cause_words plant why) (key (codes "hold") refl refl) (of_move t m (cause_words plant why) both.0 (of_cause why both.1))
  of_what End h = one_more (codes "end") (map (train_word plant) line.trains) (key (codes "end") refl refl) (trains_are_words plant named line.trains h)

  pub line_are_words : is_writable plant line ≡ true → AreWords (line_words plant line)
  line_are_words h =
      let both = and_parts (does_fit_counter line.entry.at) (is_writable_what plant line line.entry.what) h in
      one_more (time_text line.entry.at) (what_words plant line line.entry.what) (time_word line.entry.at (ltb-true line.entry.at (2 ^ 64) both.0)) (of_what line.entry.what both.1)
