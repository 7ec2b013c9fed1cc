-- A line is read back from its words.
use Rattle.std.proofs.Common.{◌≡◌, ℕ, zero, suc, ◌<◌, ◌^◌, Bool, true, false, ◌&&◌, cond, List, [], length, get_or, codes, decimal, Some, None, refl, sym, ap, ◌∙◌, subst, ⊎_elim, arith}
use Rattle.std.specs.Prelude.{unwrap_or}
use Rattle.std.specs.Cmp.Lexicographic.{bytes_decides}
use Rattle.std.proofs.lemmas.Bool.{cases_lt, and_parts, ltb-true, cond-true, cond-false, false_from_ne_true}
use Rattle.rail_base.specs.declared.history.What.{What}
use Rattle.rail_base.specs.declared.history.What.TheVariants.{Free, Arrive, Enter, Out, Ready, Told, Untold, Admit, Hold, End}
use Rattle.rail_base.specs.declared.history.Note.{Note}
use Rattle.rail_base.specs.declared.history.Note.TheVariants.{Pulled, Appended, Fresh}
use Rattle.rail_base.specs.declared.history.Cause.{Cause}
use Rattle.rail_base.specs.declared.history.Cause.TheVariants.{Stopped, Closed, Blocked, NoList}
use Rattle.rail_rules.specs.Numbers.{or_else, first_below, same_numbers}
use Rattle.rail_rules.specs.Plant.{Plant, section, train, trains}
use Rattle.rail_rules.specs.Fronts.{Line}
use Rattle.rail_rules.specs.Lawful.{is_bare}
use Rattle.rail_rules.specs.Texts.{train_word, section_word, note_words, cause_words, what_words}
use Rattle.rail_rules.specs.WritableLines.{does_fit_counter, is_known_train, is_known_section, is_known_move, is_writable_cause, is_writable_note, is_writable_what, IsNamed}
use Rattle.rail_laws_text.proofs.Wording.{read_on, number_back}

-- the first number below a bound that passes is the only one
only_below : (f : ℕ → Bool) (n t : ℕ) → t < n → f t ≡ true → ((i : ℕ) → i < n → f i ≡ true → i ≡ t) → first_below f n ≡ Some t
only_below f zero t lt is only = absurd (omega arith)
only_below f (suc n) t lt is only =
    let before : t < n → first_below f n ≡ Some t = λ below. only_below f n t below is (λ i li fi. only i (omega (arith, li)) fi) in
    ⊎_elim
    (λ below. ap (λ o. or_else o (cond (f n) (Some n) None)) (before below))
    (λ above.
    let same : t ≡ n = omega (arith, lt, above) in
    let P : ℕ → Type 0 = λ k. f k ≡ true in
    let here : f n ≡ true = subst P same is in
    ap (λ o. or_else o (cond (f n) (Some n) None)) (nothing_below f n (λ i li. false_from_ne_true (f i) (λ fi. omega (arith, same, li, only i (omega (arith, li)) fi))))
    ∙ cond-true (f n) (Some n) None here ∙ ap Some (sym same))
    (cases_lt t n)
  where
    nothing_below : (f : ℕ → Bool) (n : ℕ) → ((i : ℕ) → i < n → f i ≡ false) → first_below f n ≡ None
    nothing_below f zero h = refl
    nothing_below f (suc n) h =
        let below = nothing_below f n (λ i li. h i (omega (arith, li))) in
        let here : cond (f n) (Some n) None ≡ None = cond-false (f n) (Some n) None (h n (omega arith)) in
        λ i. or_else (below i) (here i)

pub train_back : Plant → List ℕ → ℕ
train_back plant word = unwrap_or (first_below (λ t. same_numbers (train plant t).name word) (trains plant)) 0

pub section_back : Plant → List ℕ → ℕ
section_back plant word = unwrap_or (first_below (λ x. same_numbers (section plant x).name word) (length plant.tables.sections)) 0

pub note_back : List ℕ → Note
note_back word = cond (same_numbers word (codes "pulled")) Pulled (cond (same_numbers word (codes "appended")) Appended Fresh)

pub cause_back : Plant → List ℕ → List ℕ → List ℕ → Cause
cause_back plant word x u = cond (same_numbers word (codes "stopped")) Stopped (cond (same_numbers word (codes "closed")) (Closed (section_back plant x)) (cond (same_numbers word (codes "blocked")) (Blocked (section_back plant x) (train_back plant u)) NoList))

pub what_back : Plant → List (List ℕ) → What
what_back plant words =
    let key : List ℕ = get_or words 0 [] in
    let a : List ℕ = get_or words 1 [] in
    let b : List ℕ = get_or words 2 [] in
    let c : List ℕ = get_or words 3 [] in
    cond (same_numbers key (codes "free")) (Free (section_back plant a) (train_back plant b))
    (cond (same_numbers key (codes "arrive")) (Arrive (train_back plant a) (read_on 0 b))
    (cond (same_numbers key (codes "enter")) (Enter (train_back plant a) (read_on 0 b) (section_back plant c))
    (cond (same_numbers key (codes "out")) (Out (train_back plant a))
    (cond (same_numbers key (codes "ready")) (Ready (train_back plant a) (read_on 0 b))
    (cond (same_numbers key (codes "told")) (Told (read_on 0 a))
    (cond (same_numbers key (codes "untold")) (Untold (read_on 0 a))
    (cond (same_numbers key (codes "admit")) (Admit (train_back plant a) (read_on 0 b) (note_back c))
    (cond (same_numbers key (codes "hold")) (Hold (train_back plant a) (read_on 0 b) (cause_back plant c (get_or words 4 []) (get_or words 5 []))) End))))))))

module _ (plant : Plant) (named : IsNamed plant) where
  train_is : (t : ℕ) → is_known_train plant t ≡ true → train_back plant (train_word plant t) ≡ t
  unfolding train_back
  train_is t known =
      let lt = ltb-true t (trains plant) known in
      ap (λ o. unwrap_or o 0) (only_below (λ u. same_numbers (train plant u).name (train plant t).name) (trains plant) t lt
      ((bytes_decides (train plant t).name (train plant t).name).1 refl)
      (λ u lu same. named.train_of u t lu lt ((bytes_decides (train plant u).name (train plant t).name).0 same)))

  section_is : (x : ℕ) → is_known_section plant x ≡ true → section_back plant (section_word plant x) ≡ x
  unfolding section_back
  section_is x known =
      let lt = ltb-true x (length plant.tables.sections) known in
      ap (λ o. unwrap_or o 0) (only_below (λ y. same_numbers (section plant y).name (section plant x).name) (length plant.tables.sections) x lt
      ((bytes_decides (section plant x).name (section plant x).name).1 refl)
      (λ y ly same. named.section_of y x ly lt ((bytes_decides (section plant y).name (section plant x).name).0 same)))

  number_is : (n : ℕ) → does_fit_counter n ≡ true → read_on 0 (decimal n) ≡ n
  number_is n fits = number_back n (ltb-true n (2 ^ 64) fits)

  cause_is : (why : Cause) → is_writable_cause plant why ≡ true → cause_back plant (get_or (cause_words plant why) 0 []) (get_or (cause_words plant why) 1 []) (get_or (cause_words plant why) 2 []) ≡ why
  unfolding cause_back
  cause_is Stopped h = refl
  cause_is (Closed x) h = ap Closed (section_is x h)
  cause_is (Blocked x u) h =
      let both = and_parts (is_known_section plant x) (is_known_train plant u) h in
      let first = section_is x both.0 in
      let second = train_is u both.1 in
      λ i. Blocked (first i) (second i)
  cause_is NoList h = refl

  note_is : (line : Line) (note : Note) → note_back (get_or (note_words plant line note) 0 []) ≡ note
  unfolding note_back
  note_is line Pulled = refl
  note_is line Appended = refl
  note_is line Fresh = refl

  pub what_is : (line : Line) (what : What) → is_writable_what plant line what ≡ true → what_back plant (what_words plant line what) ≡ what
  unfolding what_back
  what_is line (Free x t) h =
      let two = and_parts (is_known_section plant x) (is_known_train plant t) (and_parts (is_known_section plant x && is_known_train plant t) (is_bare line) h).0 in
      let first = section_is x two.0 in
      let second = train_is t two.1 in
      λ i. Free (first i) (second i)
  what_is line (Arrive t m) h =
      let two = and_parts (is_known_train plant t) (does_fit_counter m) (and_parts (is_known_move plant t m) (is_bare line) h).0 in
      let first = train_is t two.0 in
      let second = number_is m two.1 in
      λ i. Arrive (first i) (second i)
  what_is line (Enter t m x) h =
      let both = and_parts (is_known_move plant t m) (is_known_section plant x) (and_parts (is_known_move plant t m && is_known_section plant x) (is_bare line) h).0 in
      let two = and_parts (is_known_train plant t) (does_fit_counter m) both.0 in
      let first = train_is t two.0 in
      let second = number_is m two.1 in
      let third = section_is x both.1 in
      λ i. Enter (first i) (second i) (third i)
  what_is line (Out t) h = ap Out (train_is t (and_parts (is_known_train plant t) (is_bare line) h).0)
  what_is line (Ready t m) h =
      let two = and_parts (is_known_train plant t) (does_fit_counter m) (and_parts (is_known_move plant t m) (is_bare line) h).0 in
      let first = train_is t two.0 in
      let second = number_is m two.1 in
      λ i. Ready (first i) (second i)
  what_is line (Told k) h = ap Told (number_is k (and_parts (does_fit_counter k) (is_bare line) h).0)
  what_is line (Untold k) h = ap Untold (number_is k (and_parts (does_fit_counter k) (is_bare line) h).0)
  what_is line (Admit t m note) h =
      let two = and_parts (is_known_train plant t) (does_fit_counter m) (and_parts (is_known_move plant t m) (is_writable_note plant line note) h).0 in
      let first = train_is t two.0 in
      let second = number_is m two.1 in
      let third = note_is line note in
      λ i. Admit (first i) (second i) (third i)
  what_is line (Hold t m why) h =
      let both = and_parts (is_known_move plant t m) (is_writable_cause plant why) (and_parts (is_known_move plant t m && is_writable_cause plant why) (is_bare line) h).0 in
      let two = and_parts (is_known_train plant t) (does_fit_counter m) both.0 in
      let first = train_is t two.0 in
      let second = number_is m two.1 in
      let third = cause_is why both.1 in
      λ i. Hold (first i) (second i) (third i)
  what_is line End h = refl
