-- A walk over the members of a table, which finds the values of keys.
use Rattle.std.proofs.Common.{Bor, ◌≡◌, ◌≢◌, ℕ, zero, suc, ◌<◌, ◌≤◌, Bool, true, false, List, [], ◌∷◌, length, get_or, map, set, take, replicate, Option, Some, None, is_some, string_bytes, refl, sym, ap, ◌∙◌, ⊎_elim, arith, ext_get_or}
use Rattle.std.proofs.lemmas.Bool.{cases_Bool, cases_lt, false≢true, true≢false}
use Rattle.std.proofs.lemmas.Grind.{common_steps}
use Rattle.std.proofs.lemmas.List.{get_or_default, get_or-map, get_or-set_other, get_or-set_same, get_or-take, length-map, length-set, length-take, length-take-le}
use Rattle.std.proofs.lemmas.List.Quantifiers.{position-Some}
use Rattle.std.proofs.lemmas.List.Sums.{fails_before_first, passes_at_first}
use Rattle.std.proofs.lemmas.Slice.Eq.{bytes_eq-Decides}
use Rattle.std.specs.List.{position, position_or_len}
use Rattle.std.specs.Option.{option_copied}
use Rattle.std.specs.Prelude.{option_map}
use Rattle.toml.specs.declared.value.Value.{Value}
use Rattle.toml.specs.Data.{Data, array, as_table, boolean, datetime, float, get, get_member, integer, string, table}
use Rattle.toml.specs.View.{view, members_view}
use Rattle.rail_base.specs.Lists.{are_distinct}
use Rattle.rail_base.specs.NameForms.{same_name}
use Rattle.rail_track.proofs.CallerLemmas.{same_name-comm, same_from_name}
use Rattle.rail_scene.specs.declared.keys.Key.{Key}
use Rattle.rail_scene.specs.Keys.{text_of}
use Rattle.rail_scene.specs.Fields.{value_at}
use Rattle.rail_scene.specs.Forms.{have_one_text}
use Rattle.rail_scene.proofs.FormWalk.{Entry, get_here, get_later, one_place}

-- the key is written so
abbrev pub is_text : List ℕ → Key → Bool
is_text text key = same_name (text_of key.name) text

-- of distinct keys two that are written alike are one
one_key : (keys : List Key) (text : List ℕ) (i j : ℕ) (d : Key) → are_distinct have_one_text keys ≡ true → i < length keys → j < length keys
    → is_text text (get_or keys i d) ≡ true → is_text text (get_or keys j d) ≡ true → i ≡ j
one_key keys text i j d apart lt below one other =
    let a : text_of (get_or keys i d).name ≡ text = same_from_name _ _ one in
    let b : text_of (get_or keys j d).name ≡ text = same_from_name _ _ other in
    one_place have_one_text (λ x y. same_name-comm (text_of x.name) (text_of y.name)) keys i j d apart lt below
    (ap (λ t. same_name (text_of (get_or keys i d).name) t) (b ∙ sym a) ∙ (bytes_eq-Decides (text_of (get_or keys i d).name) (text_of (get_or keys i d).name)).1 refl)

-- a key that is written so is the first one that is
pub is_position : (keys : List Key) (text : List ℕ) (i : ℕ) (d : Key) → are_distinct have_one_text keys ≡ true → i < length keys
    → is_text text (get_or keys i d) ≡ true → position (is_text text) keys ≡ Some i
is_position keys text i d apart lt named =
    let n = position_or_len (is_text text) keys in
    let at : n ≡ i =
    ⊎_elim
    (λ early. one_key keys text n i d apart (omega (arith, early, lt)) lt (passes_at_first (is_text text) keys d (omega (arith, early, lt))) named)
    (λ rest. ⊎_elim
    (λ late. absurd (false≢true (sym (fails_before_first (is_text text) keys i d late) ∙ named)))
    (λ both. omega (arith, rest, both))
    (cases_lt i n))
    (cases_lt n i) in
    grind (arith, common_steps, at)

-- a text that is none of the keys is not that of one
no_key : (keys : List Key) (text : List ℕ) (i : ℕ) (d : Key) → position (is_text text) keys ≡ None → i < length keys → is_text text (get_or keys i d) ≡ false
no_key keys text i d none lt =
    let past : length keys ≤ position_or_len (is_text text) keys = grind (arith, common_steps, none) in
    fails_before_first (is_text text) keys i d (omega (arith, past, lt))

module _ {V : Type 0} (look : V → Data) where
  -- what was found, and else what is found later
  abbrev or_later : Option V → Option Data → Option Data
  or_later (Some v) later = Some (look v)
  or_later None later = later

  at_end : (found : Option V) → option_map look found ≡ or_later found None
  at_end (Some v) = refl
  at_end None = refl

  -- where something was found, nothing is found later
  stays : (found : Option V) (a b : Option Data) → is_some found ≡ true → or_later found a ≡ or_later found b
  stays (Some v) a b some = refl
  stays None a b some = absurd (false≢true some)

  is_nothing : (found : Option V) → is_some found ≡ false → found ≡ None
  is_nothing (Some v) none = absurd (true≢false none)
  is_nothing None none = refl

  -- what a walk has found of the members before the rest
  pub record IsFound (keys : List Key) (all rest : List Entry) (values : List (Option V)) : Type 0 where
    pub long : length keys ≤ length values
    pub found : (i : ℕ) (d : Key) → i < length keys → get_member (text_of (get_or keys i d).name) (members_view all) ≡ or_later (get_or values i None) (get_member (text_of (get_or keys i d).name) (members_view rest))

  module _ (keys : List Key) (all rest : List Entry) (values : List (Option V)) (e : Entry) (before : IsFound keys all (e ∷ rest) values) where
    abbrev text : ℕ → Key → List ℕ
    text i d = text_of (get_or keys i d).name

    abbrev later : ℕ → Key → Option Data
    later i d = get_member (text i d) (members_view rest)

    -- what was found of a key stays, where the member is not its
    other_stays : (i : ℕ) (d : Key) → i < length keys → is_text (string_bytes e.0) (get_or keys i d) ≡ false → get_member (text i d) (members_view all) ≡ or_later (get_or values i None) (later i d)
    other_stays i d lt other = before.found i d lt ∙ ap (or_later (get_or values i None)) (get_later (text i d) e rest other)

    -- a member of no key
    pub past_stranger : position (is_text (string_bytes e.0)) keys ≡ None → IsFound keys all rest values
    past_stranger none = record {
      long = before.long;
      found = λ i d lt. other_stays i d lt (no_key keys (string_bytes e.0) i d none lt);
    }

    module _ (at : ℕ) (apart : are_distinct have_one_text keys ≡ true) (is : position (is_text (string_bytes e.0)) keys ≡ Some at) where
      -- a key that the member has is the one that was found
      this_one : (i : ℕ) (d : Key) → i < length keys → is_text (string_bytes e.0) (get_or keys i d) ≡ true → i ≡ at
      this_one i d lt same =
          let that = position-Some (is_text (string_bytes e.0)) keys at d is in
          one_key keys (string_bytes e.0) i at d apart lt that.0 same that.1

      -- a member of a key whose value was found
      pub past_again : (empty : Option V) → is_some (get_or values at empty) ≡ true → IsFound keys all rest values
      past_again empty taken = record {
        long = before.long;
        found = λ i d lt.
            ⊎_elim
            (λ same.
            let one : i ≡ at = this_one i d lt same in
            let here : is_some (get_or values i None) ≡ true = ap (λ j. is_some (get_or values j None)) one ∙ ap is_some (get_or_default values at None empty (omega (arith, before.long, lt, one))) ∙ taken in
            before.found i d lt ∙ stays (get_or values i None) (get_member (text i d) (members_view (e ∷ rest))) (later i d) here)
            (λ other. other_stays i d lt other)
            (cases_Bool (is_text (string_bytes e.0) (get_or keys i d)));
      }

      -- a member of a key whose value was not found before
      pub found_on : (v : V) → look v ≡ view e.1 → (empty : Option V) → is_some (get_or values at empty) ≡ false → IsFound keys all rest (set values at (Some v))
      found_on v is_value empty free = record {
        long = rw (length-set values at (Some v)) before.long;
        found = λ i d lt.
            ⊎_elim
            (λ same.
            let one : i ≡ at = this_one i d lt same in
            let below : at < length values = omega (arith, before.long, lt, one) in
            let is_free : get_or values i None ≡ None = ap (λ j. get_or values j None) one ∙ get_or_default values at None empty below ∙ is_nothing (get_or values at empty) free in
            let here : get_or (set values at (Some v)) i None ≡ Some v = ap (λ j. get_or (set values at (Some v)) j None) one ∙ get_or-set_same values at (Some v) None below in
            before.found i d lt ∙ ap (λ o. or_later o (get_member (text i d) (members_view (e ∷ rest)))) is_free ∙ get_here (text i d) e rest (same_from_name _ _ same) ∙ ap Some (sym is_value) ∙ ap (λ o. or_later o (later i d)) (sym here))
            (λ other.
            let that = position-Some (is_text (string_bytes e.0)) keys at d is in
            let apart_from : i ≢ at = λ one. true≢false (sym that.1 ∙ ap (λ j. is_text (string_bytes e.0) (get_or keys j d)) (sym one) ∙ other) in
            other_stays i d lt other ∙ ap (λ o. or_later o (later i d)) (sym (get_or-set_other values at i (Some v) None apart_from)))
            (cases_Bool (is_text (string_bytes e.0) (get_or keys i d)));
      }

  -- at the end of the walk the values of the keys are found
  pub all_found : (keys : List Key) (all : List Entry) (values : List (Option V)) (key : Key) → IsFound keys all [] values → take (length keys) (map (option_map look) values) ≡ map (λ (key : Key). value_at key (table (members_view all))) keys
  all_found keys all values key walked =
      let mapped : length keys ≤ length (map (option_map look) values) = rw (length-map values (option_map look)) walked.long in
      let long : length (take (length keys) (map (option_map look) values)) ≡ length keys = length-take-le (length keys) (map (option_map look) values) mapped in
      ext_get_or None (take (length keys) (map (option_map look) values)) (map (λ (key : Key). value_at key (table (members_view all))) keys)
      (long ∙ sym (length-map keys (λ (key : Key). value_at key (table (members_view all)))))
      (λ i lt.
      let below : i < length keys = omega (arith, lt, long) in
      get_or-take (length keys) (map (option_map look) values) i None below
      ∙ get_or-map (option_map look) values i None None (omega (arith, below, walked.long))
      ∙ at_end (get_or values i None)
      ∙ sym (walked.found i key below)
      ∙ sym (get_or-map (λ (key : Key). value_at key (table (members_view all))) keys i key None below))

-- what is no table has no member
no_member : (node : Data) (text : List ℕ) → as_table node ≡ None → get text node ≡ None
no_member (string s) text none = refl
no_member (integer z) text none = refl
no_member (float x) text none = refl
no_member (boolean b) text none = refl
no_member (datetime dt) text none = refl
no_member (array ds) text none = refl
no_member (table ms) text none = absurd (true≢false (ap is_some none))

-- so many values that are not there
abbrev pub nothings : ℕ → List (Option Data)
nothings n = replicate n None

-- what is no table has no values
pub no_values : (keys : List Key) (n : ℕ) (node : Data) → length keys ≤ n → as_table node ≡ None → take (length keys) (nothings n) ≡ map (λ (key : Key). value_at key node) keys
no_values [] n node few none = refl
no_values (key ∷ keys) zero node few none = absurd (omega (arith, few))
no_values (key ∷ keys) (suc n) node few none =
    ap (λ value. value ∷ take (length keys) (nothings n)) (sym (no_member node (text_of key.name) none))
    ∙ ap (λ values. value_at key node ∷ values) (no_values keys n node (omega (arith, few)) none)

copied : (value : Option (Bor Value)) → option_map view (option_copied value) ≡ option_map (λ v. view v.now) value
copied (Some v) = refl
copied None = refl

-- the value of a key is that at its index
pub at_key : (keys : List Key) (values : List (Option (Bor Value))) (node : Data) (i : ℕ) (d : Option (Bor Value)) (k : Key) → i < length keys
    → take (length keys) (map (option_map (λ v. view v.now)) values) ≡ map (λ (key : Key). value_at key node) keys
    → option_map view (option_copied (get_or values i d)) ≡ value_at (get_or keys i k) node
at_key keys values node i d k lt same =
    let shown = map (option_map (λ (v : Bor Value). view v.now)) values in
    let long : length keys ≤ length values = omega (arith, length-take (length keys) shown, ap length same, length-map keys (λ (key : Key). value_at key node), length-map values (option_map (λ (v : Bor Value). view v.now))) in
    copied (get_or values i d)
    ∙ sym (get_or-map (option_map (λ (v : Bor Value). view v.now)) values i d None (omega (arith, lt, long)))
    ∙ sym (get_or-take (length keys) shown i None lt)
    ∙ ap (λ found. get_or found i None) same
    ∙ get_or-map (λ (key : Key). value_at key node) keys i k None lt
