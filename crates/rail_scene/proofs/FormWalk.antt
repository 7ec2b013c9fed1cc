-- A walk over the members of a table, which tells that the table is of its form.
use Rattle.std.proofs.Common.{◌≡◌, ◌≢◌, ℕ, zero, suc, ◌<◌, ◌≤◌, ◌+◌, Bool, true, false, not, ◌||◌, List, [], ◌∷◌, length, get_or, set, Option, Some, None, is_some, String, Global, string_bytes, nat_cmp, is_eq, Ordering, Less, Equal, Greater, refl, sym, ap, ◌∙◌, subst, ⊎_elim, arith}
use Rattle.std.proofs.lemmas.Bool.{and_parts, cases_Bool, false≢true, true≢false}
use Rattle.std.proofs.lemmas.Cmp.{nat_list_cmp_total}
use Rattle.std.proofs.lemmas.List.{get_or-set_other, get_or_default, length-set}
use Rattle.std.proofs.lemmas.List.Folds.{list_any_at}
use Rattle.std.proofs.lemmas.List.Quantifiers.{position-Some}
use Rattle.std.proofs.lemmas.Map.Text.{is_eq-slice_cmp}
use Rattle.std.proofs.lemmas.Slice.Eq.{bytes_eq-Decides}
use Rattle.std.specs.Cmp.{tied_itself}
use Rattle.std.specs.Cmp.Lexicographic.{slice_cmp}
use Rattle.std.specs.List.{list_any, position}
use Rattle.std.specs.Option.{option_map_or}
use Rattle.std.specs.Ordering.{match_ordering}
use Rattle.toml.specs.Data.{Data, Members, get_member, table}
use Rattle.toml.specs.View.{view, members_view}
use Rattle.toml.specs.declared.value.Value.{Value}
use Rattle.rail_base.specs.FirstRefusals.{first_failing}
use Rattle.rail_base.specs.Lists.{are_distinct}
use Rattle.rail_base.specs.NameForms.{same_name}
use Rattle.rail_base.specs.declared.refusals.Reason.TheVariants.{KeyUnknown}
use Rattle.rail_track.specs.NetFaults.{refused_where}
use Rattle.rail_track.proofs.CallerLemmas.{same_name-comm, same_from_name}
use Rattle.rail_scene.specs.declared.keys.Key.{Key}
use Rattle.rail_scene.specs.declared.keys.TheConstants.{MOST_KEYS}
use Rattle.rail_scene.specs.Keys.{text_of}
use Rattle.rail_scene.specs.Fields.{value_at}
use Rattle.rail_scene.specs.Forms.{form_tests, has_unknown, have_one_text, is_known, is_of, key_test, key_tests, member_keys}
use Rattle.rail_scene.proofs.Segments.{both_passed}

abbrev pub Entry : Type 0
Entry = String Global × Value

-- what a text finds in the members, at the first and behind it
pub get_here : (k : List ℕ) (e : Entry) (es : List Entry) → k ≡ string_bytes e.0 → get_member k (members_view (e ∷ es)) ≡ Some (view e.1)
get_here k e es is = rw (is, tied_itself nat_list_cmp_total (string_bytes e.0))

passed_by : (o : Ordering) (a b : Option Data) → is_eq o ≡ false → match_ordering o a b a ≡ a
passed_by Less a b e = refl
passed_by Equal a b e = absurd (true≢false e)
passed_by Greater a b e = refl

pub get_later : (k : List ℕ) (e : Entry) (es : List Entry) → same_name k (string_bytes e.0) ≡ false → get_member k (members_view (e ∷ es)) ≡ get_member k (members_view es)
get_later k e es other = passed_by (slice_cmp nat_cmp k (string_bytes e.0)) _ _ (is_eq-slice_cmp k (string_bytes e.0) ∙ other)

still_some : (o : Ordering) (m : Option Data) (d : Data) → is_some m ≡ true → is_some (match_ordering o m (Some d) m) ≡ true
still_some Less m d some = some
still_some Equal m d some = refl
still_some Greater m d some = some

-- of distinct items two that are alike are one
pub one_place : {X : Type 0} (alike : X → X → Bool) → ((x y : X) → alike x y ≡ alike y x) → (xs : List X) (i j : ℕ) (d : X) → are_distinct alike xs ≡ true
    → i < length xs → j < length xs → alike (get_or xs i d) (get_or xs j d) ≡ true → i ≡ j
one_place alike both [] i j d apart lt below same = absurd (omega arith)
one_place alike both (x ∷ xs) zero zero d apart lt below same = refl
one_place alike both (x ∷ xs) zero (suc j) d apart lt below same =
    let none = (and_parts (not (list_any (alike x) xs)) (are_distinct alike xs) apart).0 in
    absurd (false≢true (sym (ap not (list_any_at (alike x) xs j d (omega arith) same)) ∙ none))
one_place alike both (x ∷ xs) (suc i) zero d apart lt below same =
    let none = (and_parts (not (list_any (alike x) xs)) (are_distinct alike xs) apart).0 in
    absurd (false≢true (sym (ap not (list_any_at (alike x) xs i d (omega arith) (both x (get_or xs i d) ∙ same))) ∙ none))
one_place alike both (x ∷ xs) (suc i) (suc j) d apart lt below same =
    let rest = (and_parts (not (list_any (alike x) xs)) (are_distinct alike xs) apart).1 in
    ap suc (one_place alike both xs i j d rest (omega arith) (omega arith) same)

-- the value at the key is of the kind that the key's form states, if there is one
abbrev fits : Key → List Entry → Bool
fits key es = option_map_or (is_of key.form) (get_member (text_of key.name) (members_view es)) true

-- the text is none of the keys
abbrev is_strange : List Key → List ℕ → Bool
is_strange keys text = not (is_known keys text)

-- what a walk has told of the members before the rest, where these keys were met
pub record IsWalked (keys : List Key) (all rest : List Entry) (met : List Bool) : Type 0 where
  pub long : length met ≡ MOST_KEYS
  pub kinds : (i : ℕ) (d : Key) → i < length keys → fits (get_or keys i d) rest ≡ true → fits (get_or keys i d) all ≡ true
  pub there : (k : List ℕ) → is_some (get_member k (members_view rest)) ≡ true → is_some (get_member k (members_view all)) ≡ true
  pub found : (i : ℕ) (d : Key) → i < length keys → get_or met i false ≡ true → is_some (get_member (text_of (get_or keys i d).name) (members_view all)) ≡ true
  pub known : list_any (is_strange keys) (member_keys (members_view rest)) ≡ list_any (is_strange keys) (member_keys (members_view all))

module _ (keys : List Key) (all rest : List Entry) (met : List Bool) (e : Entry) (at : ℕ) (key : Key) (few : length keys ≤ MOST_KEYS) (apart : are_distinct have_one_text keys ≡ true)
    (is : position (λ (k : Key). same_name (text_of k.name) (string_bytes e.0)) keys ≡ Some at) (fit : is_of (get_or keys at key).form (view e.1) ≡ true)
    (walked : IsWalked keys all (e ∷ rest) met) where
  abbrev names : Key → Bool
  names k = same_name (text_of k.name) (string_bytes e.0)

  within : at < length keys
  within = (position-Some names keys at key is).0

  named : (d : Key) → names (get_or keys at d) ≡ true
  named d = (position-Some names keys at d is).1

  -- a key that the member has is the one that was found
  this_one : (i : ℕ) (d : Key) → i < length keys → names (get_or keys i d) ≡ true → i ≡ at
  this_one i d lt same =
      let a : text_of (get_or keys i d).name ≡ string_bytes e.0 = same_from_name _ _ same in
      let b : text_of (get_or keys at d).name ≡ string_bytes e.0 = same_from_name _ _ (named d) in
      one_place have_one_text (λ x y. same_name-comm (text_of x.name) (text_of y.name)) keys i at d apart lt within
      (ap (λ t. same_name (text_of (get_or keys i d).name) t) (b ∙ sym a) ∙ (bytes_eq-Decides (text_of (get_or keys i d).name) (text_of (get_or keys i d).name)).1 refl)

  kind_here : (i : ℕ) (d : Key) → i < length keys → fits (get_or keys i d) rest ≡ true → fits (get_or keys i d) (e ∷ rest) ≡ true
  kind_here i d lt later =
      let k = get_or keys i d in
      ⊎_elim
      (λ same.
      let one : i ≡ at = this_one i d lt same in
      let P : Key → Type 0 = λ q. is_of q.form (view e.1) ≡ true in
      let own : k ≡ get_or keys at key = ap (λ j. get_or keys j d) one ∙ get_or_default keys at d key within in
      ap (λ m. option_map_or (is_of k.form) m true) (get_here (text_of k.name) e rest (same_from_name _ _ same)) ∙ subst P (sym own) fit)
      (λ other. ap (λ m. option_map_or (is_of k.form) m true) (get_later (text_of k.name) e rest other) ∙ later)
      (cases_Bool (names k))

  pub walk_on : IsWalked keys all rest (set met at true)
  walk_on = record {
    long = length-set met at true ∙ walked.long;
    kinds = λ i d lt later. walked.kinds i d lt (kind_here i d lt later);
    there = λ k some. walked.there k (still_some (slice_cmp nat_cmp k (string_bytes e.0)) (get_member k (members_view rest)) (view e.1) some);
    found = λ i d lt was.
        let k = get_or keys i d in
        ⊎_elim
        (λ same. walked.there (text_of k.name) (ap is_some (get_here (text_of k.name) e rest (same_from_name _ _ same))))
        (λ other.
        let ne : i ≢ at = λ same. true≢false (sym (named d) ∙ ap (λ j. names (get_or keys j d)) (sym same) ∙ other) in
        walked.found i d lt (sym (get_or-set_other met at i true false ne) ∙ was))
        (cases_Bool (names k));
    known = sym (ap (λ b. not b || list_any (is_strange keys) (member_keys (members_view rest))) (list_any_at names keys at key within (named key))) ∙ walked.known;
  }

-- a key whose value fits, and is there where it is required, passes its tests
key_passes : (n : ℕ) (key : Key) (value : Option Data) → option_map_or (is_of key.form) value true ≡ true → (key.required ≡ true → is_some value ≡ true) → first_failing (key_test n key value) ≡ None
key_passes n key (Some d) fit some = rw fit
key_passes n key None fit some =
    ⊎_elim
    (λ must. absurd (false≢true (some must)))
    (λ may. rw may)
    (cases_Bool key.required)

keys_pass : (n : ℕ) (keys : List Key) (ms : Members) → ((i : ℕ) (d : Key) → i < length keys → option_map_or (is_of (get_or keys i d).form) (get_member (text_of (get_or keys i d).name) ms) true ≡ true)
    → ((i : ℕ) (d : Key) → i < length keys → (get_or keys i d).required ≡ true → is_some (get_member (text_of (get_or keys i d).name) ms) ≡ true)
    → first_failing (key_tests n keys (table ms)) ≡ None
keys_pass n [] ms fit some = refl
keys_pass n (key ∷ keys) ms fit some =
    both_passed (key_test n key (value_at key (table ms))) (key_tests (n + 1) keys (table ms))
    (key_passes n key (get_member (text_of key.name) ms) (fit 0 key (omega arith)) (some 0 key (omega arith)))
    (keys_pass (n + 1) keys ms (λ i d lt. fit (suc i) d (omega (arith, lt))) (λ i d lt. some (suc i) d (omega (arith, lt))))

-- at the end of the walk the table is of its form, where each required key was met
pub form_passes : (keys : List Key) (all : List Entry) (met : List Bool) → IsWalked keys all [] met
    → ((i : ℕ) (key : Key) → i < length keys → (get_or keys i key).required ≡ true → get_or met i false ≡ true)
    → first_failing (form_tests keys (table (members_view all))) ≡ None
form_passes keys all met walked must =
    let node : Data = table (members_view all) in
    both_passed (key_tests 1 keys node) (refused_where KeyUnknown 0 (has_unknown keys node) ∷ [])
    (keys_pass 1 keys (members_view all) (λ i d lt. walked.kinds i d lt refl) (λ i d lt required. walked.found i d lt (must i d lt required)))
    (rw (sym walked.known))
