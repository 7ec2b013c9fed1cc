-- The events that give sections free, as lines and by number.
use Rattle.std.proofs.Common.{◌≡◌, ℕ, zero, suc, ◌+◌, ◌<◌, ◌≤◌, Bool, true, false, not, ◌&&◌, ◌||◌, cond, eqb, List, [], ◌∷◌, length, get_or, Option, Some, None, refl, sym, ap, ◌∙◌, subst, ⊎_elim, arith}
use Rattle.std.specs.Prelude.{count_by}
use Rattle.std.specs.List.{filter, list_any}
use Rattle.std.proofs.lemmas.Bool.{and_parts, and_right, cases_Bool, cond-false, eqb-true, eq-eqb, false≢true, le-ltb, ne_eqb, not-true, or_left, or_parts, or_right}
use Rattle.std.proofs.lemmas.List.{get_or-append-add}
use Rattle.rail_base.specs.declared.history.Entry.{Entry}
use Rattle.rail_base.specs.declared.history.What.{What}
use Rattle.rail_base.specs.declared.history.What.TheVariants.{Free, Arrive, Enter, Out, Ready, Told, Untold, Admit, Hold, End}
use Rattle.rail_rules.specs.Accepted.{are_distinct_numbers}
use Rattle.rail_rules.specs.Numbers.{comes_before, gather, is_in, sum_below}
use Rattle.rail_rules.specs.Plant.{Plant, claims, needed, overlap, step_section, steps}
use Rattle.rail_rules.specs.Fronts.{at_time}
use Rattle.rail_rules.specs.Intervals.{end_time, freed_at, is_unfreed, timer_end}
use Rattle.rail_rules.specs.Events.{free_lines}
use Rattle.rail_rules.proofs.CallerLemmas.{claims_are, end_timed, freed_from, gather_same, last_not_taken}
use Rattle.rail_laws_front.specs.Premises.{IsWellFormed}
use Rattle.rail_laws_front.proofs.CallerLemmas.{over_not_open}
use Rattle.rail_laws_events.specs.Accounts.{tally}
use Rattle.rail_laws_events.specs.Changes.{overlap_frees}
use Rattle.rail_laws_events.proofs.CallerLemmas.{tally-gather}
use Rattle.rail_laws_step.specs.HolderTables.{gives_free, own_overlap}
use Rattle.rail_queue.specs.declared.event.Event.{Event}
use Rattle.rail_queue.specs.declared.event.Class.TheVariants as class
use Rattle.rail_queue.specs.Order.{class_number, goes_before, is_of}
use Rattle.rail_state.specs.Events.{AreFreedOnce, deferred_of, event_of, free_events, is_free_of, section_event, train_event}
use Rattle.rail_state.proofs.Counts.{count-cons, count-either, count-le, count-nothing, count-same}

-- a line gives the section free exactly where its event does
pub gives_free_is : (x : ℕ) (d : Entry) → is_of class.Free x (event_of d) ≡ gives_free x d.what
gives_free_is x d = of d.what
  where
    of : (w : What) → is_of class.Free x (event_of (at_time d.at w)) ≡ gives_free x w
    of (Free y t) = refl
    of (Arrive t m) = refl
    of (Enter t m y) = refl
    of (Out t) = refl
    of (Ready t m) = refl
    of (Told k) = refl
    of (Untold k) = refl
    of (Admit t m note) = refl
    of (Hold t m why) = refl
    of End = refl

-- an event gives one section free alone
one_section : (x y : ℕ) (e : Event) → is_of class.Free x e ≡ true → (y ≡ x → ⊥) → is_of class.Free y e ≡ false
one_section x y e is apart =
    let number : e.number ≡ x = eqb-true e.number x (and_parts (eqb (class_number e.class) 0) (eqb e.number x) is).1 in
    and_right (eqb (class_number e.class) 0) (eqb e.number y) (ne_eqb e.number y (λ same. apart (sym same ∙ number)))

none_of : (x : ℕ) (xs : List ℕ) (e : Event) → is_in x xs ≡ false → is_of class.Free x e ≡ true → is_free_of xs e ≡ false
none_of x [] e out is = refl
none_of x (y ∷ ys) e out is =
    let parts = or_parts (eqb y x) (is_in x ys) out in
    let here : is_of class.Free y e ≡ false = one_section x y e is (λ same. false≢true (sym parts.0 ∙ eq-eqb y x same)) in
    let later : is_free_of ys e ≡ false = none_of x ys e parts.1 is in
    ap (λ b. b || is_free_of ys e) here ∙ later

-- the events that give distinct sections free, each of which is given free by one event alone
pub free_of_each : (q : Event → Bool) (at t : ℕ) (es : List Event) (xs : List ℕ) → are_distinct_numbers xs ≡ true
    → ((x : ℕ) → is_in x xs ≡ true → count_by (λ e. is_of class.Free x e && q e) es ≡ cond (q (section_event at x t)) 1 0)
    → count_by (λ e. is_free_of xs e && q e) es ≡ count_by q (free_events at t xs)
free_of_each q at t es [] distinct each = count-nothing es
free_of_each q at t es (x ∷ xs) distinct each =
    let parts = and_parts (not (is_in x xs)) (are_distinct_numbers xs) distinct in
    omega (
      arith,
      count-either (is_of class.Free x) (is_free_of xs) q es (λ e is. none_of x xs e (not-true (is_in x xs) parts.0) is),
      each x (or_left (eqb x x) (is_in x xs) (eq-eqb x x refl)),
      free_of_each q at t es xs parts.1 (λ y there. each y (or_right (eqb x y) (is_in y xs) there)),
      count-cons q (section_event at x t) (free_events at t xs),
    )

-- some of them and the others
pub free_events_parts : (q : Event → Bool) (at t : ℕ) (c : ℕ → Bool) (xs : List ℕ) → count_by q (free_events at t xs)
    ≡ count_by q (free_events at t (filter c xs)) + count_by q (free_events at t (filter (λ x. not (c x)) xs))
free_events_parts q at t c [] = refl
free_events_parts q at t c (x ∷ xs) = of (c x) refl (free_events_parts q at t c xs)
  where
    of : (b : Bool) → c x ≡ b
        → count_by q (free_events at t xs) ≡ count_by q (free_events at t (filter c xs)) + count_by q (free_events at t (filter (λ y. not (c y)) xs))
        → count_by q (free_events at t (x ∷ xs)) ≡ count_by q (free_events at t (filter c (x ∷ xs))) + count_by q (free_events at t (filter (λ y. not (c y)) (x ∷ xs)))
    of true is rest =
        omega (
          arith,
          ap (λ b. count_by q (free_events at t (cond b (x ∷ filter c xs) (filter c xs)))) is,
          ap (λ b. count_by q (free_events at t (cond (not b) (x ∷ filter (λ y. not (c y)) xs) (filter (λ y. not (c y)) xs)))) is,
          count-cons q (section_event at x t) (free_events at t xs),
          count-cons q (section_event at x t) (free_events at t (filter c xs)),
          rest,
        )
    of false is rest =
        omega (
          arith,
          ap (λ b. count_by q (free_events at t (cond b (x ∷ filter c xs) (filter c xs)))) is,
          ap (λ b. count_by q (free_events at t (cond (not b) (x ∷ filter (λ y. not (c y)) xs) (filter (λ y. not (c y)) xs)))) is,
          count-cons q (section_event at x t) (free_events at t xs),
          count-cons q (section_event at x t) (free_events at t (filter (λ y. not (c y)) xs)),
          rest,
        )

pub filter_nothing : (xs : List ℕ) → filter (λ x. true) xs ≡ xs
filter_nothing [] = refl
filter_nothing (x ∷ xs) = ap (λ ys. x ∷ ys) (filter_nothing xs)

-- tests that agree on the numbers of a list pass the same ones
pub filter_there : (p q : ℕ → Bool) (xs : List ℕ) → ((x : ℕ) → is_in x xs ≡ true → p x ≡ q x) → filter p xs ≡ filter q xs
filter_there p q [] same = refl
filter_there p q (x ∷ xs) same =
    let here : p x ≡ q x = same x (or_left (eqb x x) (is_in x xs) (eq-eqb x x refl)) in
    let rest : filter p xs ≡ filter q xs = filter_there p q xs (λ y there. same y (or_right (eqb x y) (is_in y xs) there)) in
    λ i. cond (here i) (x ∷ rest i) (rest i)

-- what passes is in the list, and passes
pub passed_there : (p : ℕ → Bool) (xs : List ℕ) (y : ℕ) → is_in y (filter p xs) ≡ true → (is_in y xs ≡ true) × (p y ≡ true)
passed_there p [] y there = absurd (false≢true there)
passed_there p (x ∷ xs) y there = of (p x) refl (passed_there p xs y)
  where
    of : (b : Bool) → p x ≡ b → (is_in y (filter p xs) ≡ true → (is_in y xs ≡ true) × (p y ≡ true)) → (is_in y (x ∷ xs) ≡ true) × (p y ≡ true)
    of true is deeper =
        let P : Bool → Type 0 = λ b. is_in y (cond b (x ∷ filter p xs) (filter p xs)) ≡ true in
        ⊎_elim
        (λ here. let same : x ≡ y = eqb-true x y here in (or_left (eqb x y) (is_in y xs) here, ap p (sym same) ∙ is))
        (λ not_here.
        let later : is_in y (filter p xs) ≡ true = sym (ap (λ b. b || is_in y (filter p xs)) not_here) ∙ subst P is there in
        let rest = deeper later in
        (or_right (eqb x y) (is_in y xs) rest.0, rest.1))
        (cases_Bool (eqb x y))
    of false is deeper =
        let P : Bool → Type 0 = λ b. is_in y (cond b (x ∷ filter p xs) (filter p xs)) ≡ true in
        let rest = deeper (subst P is there) in
        (or_right (eqb x y) (is_in y xs) rest.0, rest.1)

pub filter_distinct : (p : ℕ → Bool) (xs : List ℕ) → are_distinct_numbers xs ≡ true → are_distinct_numbers (filter p xs) ≡ true
filter_distinct p [] distinct = refl
filter_distinct p (x ∷ xs) distinct = of (p x) refl (filter_distinct p xs (and_parts (not (is_in x xs)) (are_distinct_numbers xs) distinct).1)
  where
    of : (b : Bool) → p x ≡ b → are_distinct_numbers (filter p xs) ≡ true → are_distinct_numbers (filter p (x ∷ xs)) ≡ true
    of true is rest =
        let P : Bool → Type 0 = λ b. are_distinct_numbers (cond b (x ∷ filter p xs) (filter p xs)) ≡ true in
        let parts = and_parts (not (is_in x xs)) (are_distinct_numbers xs) distinct in
        let out : is_in x (filter p xs) ≡ false =
        ⊎_elim
        (λ there. absurd (false≢true (sym (not-true (is_in x xs) parts.0) ∙ (passed_there p xs x there).0)))
        (λ no. no)
        (cases_Bool (is_in x (filter p xs))) in
        subst P (sym is) (ap (λ b. not b && are_distinct_numbers (filter p xs)) out ∙ rest)
    of false is rest =
        let P : Bool → Type 0 = λ b. are_distinct_numbers (cond b (x ∷ filter p xs) (filter p xs)) ≡ true in
        subst P (sym is) rest

-- the lines by number are the events of the list
sum_first : (f : ℕ → ℕ) (n : ℕ) → sum_below f (suc n) ≡ f 0 + sum_below (λ i. f (suc i)) n
sum_first f zero = omega arith
sum_first f (suc n) = omega (arith, sum_first f n)

lines_of : (q : Event → Bool) (at t : ℕ) (c : ℕ → Bool) (xs : List ℕ)
    → sum_below (λ i. tally (λ e. q (event_of e)) (cond (c (get_or xs i 0)) [] (at_time at (Free (get_or xs i 0) t) ∷ []))) (length xs)
    ≡ count_by q (free_events at t (filter (λ x. not (c x)) xs))
lines_of q at t c [] = refl
lines_of q at t c (x ∷ xs) =
    let p : Entry → Bool = λ e. q (event_of e) in
    let of_one : ℕ → ℕ = λ y. tally p (cond (c y) [] (at_time at (Free y t) ∷ [])) in
    omega (
      arith,
      sum_first (λ i. of_one (get_or (x ∷ xs) i 0)) (length xs),
      lines_of q at t c xs,
      one (c x) refl,
    )
  where
    one : (b : Bool) → c x ≡ b → count_by q (free_events at t (filter (λ x. not (c x)) (x ∷ xs)))
        ≡ tally (λ e. q (event_of e)) (cond (c x) [] (at_time at (Free x t) ∷ [])) + count_by q (free_events at t (filter (λ x. not (c x)) xs))
    one true is =
        omega (
          arith,
          ap (λ b. count_by q (free_events at t (cond (not b) (x ∷ filter (λ x. not (c x)) xs) (filter (λ x. not (c x)) xs)))) is,
          ap (λ b. tally (λ e. q (event_of e)) (cond b [] (at_time at (Free x t) ∷ []))) is,
        )
    one false is =
        omega (
          arith,
          ap (λ b. count_by q (free_events at t (cond (not b) (x ∷ filter (λ x. not (c x)) xs) (filter (λ x. not (c x)) xs)))) is,
          ap (λ b. tally (λ e. q (event_of e)) (cond b [] (at_time at (Free x t) ∷ []))) is,
          count-cons q (section_event at x t) (free_events at t (filter (λ x. not (c x)) xs)),
        )

module _ (plant : Plant) (t k : ℕ) where
  -- a section of the overlap is that of a step
  pub over_section : (i : ℕ) → step_section plant t k (steps plant t k + i) ≡ get_or (overlap plant t k) i 0
  over_section i = get_or-append-add (needed plant t k) (overlap plant t k) i 0

  -- the lines of the overlap's sections that don't pass a test, all at one time
  pub overlap_lines : (q : Event → Bool) (at : ℕ) (c : ℕ → Bool)
      → tally (λ e. q (event_of e)) (gather (λ i. cond (c (step_section plant t k (steps plant t k + i))) [] (at_time at (Free (step_section plant t k (steps plant t k + i)) t) ∷ [])) (length (overlap plant t k)))
      ≡ count_by q (free_events at t (filter (λ x. not (c x)) (overlap plant t k)))
  overlap_lines q at c =
      let p : Entry → Bool = λ e. q (event_of e) in
      let one : ℕ → List Entry = λ x. cond (c x) [] (at_time at (Free x t) ∷ []) in
      ap (tally p) (gather_same (λ i. one (step_section plant t k (steps plant t k + i))) (λ i. one (get_or (overlap plant t k) i 0)) (length (overlap plant t k)) (λ i lt. ap one (over_section i)))
      ∙ tally-gather p (λ i. one (get_or (overlap plant t k) i 0)) (length (overlap plant t k))
      ∙ lines_of q at t c (overlap plant t k)

  -- as long as the next move isn't admitted, all of an overlap is given free when the timer runs out
  pub last_frees : IsWellFormed plant → (adms : List ℕ) → length adms ≤ suc k → (q : Event → Bool)
      → tally (λ e. q (event_of e)) (overlap_frees plant t adms k) ≡ count_by q (free_events (timer_end plant t adms k) t (overlap plant t k))
  last_frees fine adms last q =
      let p : Entry → Bool = λ e. q (event_of e) in
      let timer : ℕ = timer_end plant t adms k in
      let lines : ℕ → List Entry = λ x. at_time timer (Free x t) ∷ [] in
      ap (tally p) (gather_same (λ i. free_lines t (step_section plant t k (steps plant t k + i)) (freed_at plant t adms k (steps plant t k + i))) (λ i. cond false [] (lines (step_section plant t k (steps plant t k + i)))) (length (overlap plant t k))
      (λ i lt. ap (free_lines t (step_section plant t k (steps plant t k + i))) (freed (steps plant t k + i) (omega arith) (omega (arith, lt, claims_are plant t k)))))
      ∙ overlap_lines q timer (λ x. false)
      ∙ ap (λ xs. count_by q (free_events timer t xs)) (filter_nothing (overlap plant t k))
    where
      freed : (j : ℕ) → steps plant t k ≤ j → j < claims plant t k → freed_at plant t adms k j ≡ Some (timer_end plant t adms k)
      freed j over lj =
          let untaken = last_not_taken plant t adms k j last in
          cond-false (is_unfreed plant t adms k j) None (Some (end_time plant t adms k j)) (freed_from plant t adms k j (over_not_open plant fine t k j over lj adms) untaken)
          ∙ ap Some (end_timed plant t adms k j over untaken)

-- what is deferred passes no test that neither an arrival of its train nor a free of it at that time passes
pub deferred_none : (r : Event → Bool) (plant : Plant) (u p : ℕ) (arrival : Option ℕ)
    → ((a : ℕ) → arrival ≡ Some a → (r (train_event a class.Arrive u p) ≡ false) × ((x : ℕ) → r (section_event (a + plant.tables.overlap_time) x u) ≡ false))
    → list_any r (deferred_of plant u p arrival) ≡ false
deferred_none r plant u p None none = refl
deferred_none r plant u p (Some a) none =
    let both = none a refl in
    ap (λ b. b || list_any r (free_events (a + plant.tables.overlap_time) u (own_overlap plant u p))) both.0
    ∙ frees (own_overlap plant u p) both.1
  where
    frees : (xs : List ℕ) → ((x : ℕ) → r (section_event (a + plant.tables.overlap_time) x u) ≡ false) → list_any r (free_events (a + plant.tables.overlap_time) u xs) ≡ false
    frees [] each = refl
    frees (x ∷ xs) each = ap (λ b. b || list_any r (free_events (a + plant.tables.overlap_time) u xs)) (each x) ∙ frees xs each

-- what is deferred to times after an event comes behind it
pub deferred_behind : (plant : Plant) (event : Event) (u p : ℕ) (arrival : Option ℕ) → ((a : ℕ) → arrival ≡ Some a → event.at < a) → list_any (λ other. goes_before other event) (deferred_of plant u p arrival) ≡ false
deferred_behind plant event u p arrival later =
    deferred_none (λ other. goes_before other event) plant u p arrival
    (λ a is. (later_key (train_event a class.Arrive u p) (later a is), λ x. later_key (section_event (a + plant.tables.overlap_time) x u) (omega (arith, later a is))))
  where
    later_key : (other : Event) → event.at < other.at → goes_before other event ≡ false
    later_key other lt =
        ap (λ b. b || (eqb other.at event.at && comes_before (class_number other.class ∷ other.number ∷ []) (class_number event.class ∷ event.number ∷ []))) (le-ltb other.at event.at (omega (arith, lt)))
        ∙ ap (λ b. false || (b && comes_before (class_number other.class ∷ other.number ∷ []) (class_number event.class ∷ event.number ∷ []))) (ne_eqb other.at event.at (λ e. omega (arith, e, lt)))

-- a section after another: what gives it free is taken out where it passes the test
pub forget_step : (P : ℕ → Bool) (x : ℕ) (xs : List ℕ) (es later : List Event) → ((q : Event → Bool) → count_by q later ≡ count_by (λ e. not (P x && is_of class.Free x e) && q e) es)
    → (q : Event → Bool) → count_by (λ e. not (is_free_of (filter P xs) e) && q e) later ≡ count_by (λ e. not (is_free_of (filter P (x ∷ xs)) e) && q e) es
forget_step P x xs es later forgets q =
    forgets (λ e. not (is_free_of (filter P xs) e) && q e)
    ∙ count-same (λ e. not (P x && is_of class.Free x e) && (not (is_free_of (filter P xs) e) && q e)) (λ e. not (is_free_of (filter P (x ∷ xs)) e) && q e) es (λ e. one (P x) refl e)
  where
    both : (a b c : Bool) → (not a && (not b && c)) ≡ (not (a || b) && c)
    both true b c = refl
    both false b c = refl

    one : (taken : Bool) → P x ≡ taken → (e : Event) → (not (P x && is_of class.Free x e) && (not (is_free_of (filter P xs) e) && q e)) ≡ (not (is_free_of (filter P (x ∷ xs)) e) && q e)
    one true is e =
        ap (λ b. not (b && is_of class.Free x e) && (not (is_free_of (filter P xs) e) && q e)) is
        ∙ both (is_of class.Free x e) (is_free_of (filter P xs) e) (q e)
        ∙ sym (ap (λ b. not (is_free_of (cond b (x ∷ filter P xs) (filter P xs)) e) && q e) is)
    one false is e =
        ap (λ b. not (b && is_of class.Free x e) && (not (is_free_of (filter P xs) e) && q e)) is
        ∙ sym (ap (λ b. not (is_free_of (cond b (x ∷ filter P xs) (filter P xs)) e) && q e) is)

-- the first of the sections is one of those that pass, where it passes
pub once_first : (P : ℕ → Bool) (x : ℕ) (xs : List ℕ) (es : List Event) → AreFreedOnce (filter P (x ∷ xs)) es → P x ≡ true → count_by (is_of class.Free x) es ≤ 1
once_first P x xs es once is =
    let here : is_in x (x ∷ filter P xs) ≡ true = or_left (eqb x x) (is_in x (filter P xs)) (eq-eqb x x refl) in
    let T : Bool → Type 0 = λ b. is_in x (cond b (x ∷ filter P xs) (filter P xs)) ≡ true in
    once x (subst T (sym is) here)

-- and what gives the others free goes on to be as rare
pub once_rest : (P : ℕ → Bool) (x : ℕ) (xs : List ℕ) (es later : List Event) → AreFreedOnce (filter P (x ∷ xs)) es
    → ((q : Event → Bool) → count_by q later ≡ count_by (λ e. not (P x && is_of class.Free x e) && q e) es) → AreFreedOnce (filter P xs) later
once_rest P x xs es later once forgets y there =
    let T : Bool → Type 0 = λ b. is_in y (cond b (x ∷ filter P xs) (filter P xs)) ≡ true in
    let among : is_in y (filter P (x ∷ xs)) ≡ true =
    ⊎_elim
    (λ is. subst T (sym is) (or_right (eqb x y) (is_in y (filter P xs)) there))
    (λ isnt. subst T (sym isnt) there)
    (cases_Bool (P x)) in
    omega (
      arith,
      forgets (is_of class.Free y),
      count-le (λ e. not (P x && is_of class.Free x e) && is_of class.Free y e) (is_of class.Free y) es
          (λ e passes. (and_parts (not (P x && is_of class.Free x e)) (is_of class.Free y e) passes).1),
      once y among,
    )

-- and it is pushed unless it passes the test
pub push_step : (q : Event → Bool) (at t : ℕ) (c : ℕ → Bool) (x : ℕ) (xs : List ℕ) → count_by q (free_events at t (filter (λ y. not (c y)) (x ∷ xs)))
    ≡ cond (c x) 0 (count_by q (section_event at x t ∷ [])) + count_by q (free_events at t (filter (λ y. not (c y)) xs))
push_step q at t c x xs = of (c x) refl
  where
    of : (b : Bool) → c x ≡ b → count_by q (free_events at t (filter (λ y. not (c y)) (x ∷ xs)))
        ≡ cond (c x) 0 (count_by q (section_event at x t ∷ [])) + count_by q (free_events at t (filter (λ y. not (c y)) xs))
    of true is =
        omega (
          arith,
          ap (λ b. count_by q (free_events at t (cond (not b) (x ∷ filter (λ y. not (c y)) xs) (filter (λ y. not (c y)) xs)))) is,
          ap {B = ℕ} (λ b. cond b 0 (count_by q (section_event at x t ∷ []))) is,
        )
    of false is =
        omega (
          arith,
          ap (λ b. count_by q (free_events at t (cond (not b) (x ∷ filter (λ y. not (c y)) xs) (filter (λ y. not (c y)) xs)))) is,
          ap {B = ℕ} (λ b. cond b 0 (count_by q (section_event at x t ∷ []))) is,
          count-cons q (section_event at x t) (free_events at t (filter (λ y. not (c y)) xs)),
          count-cons q (section_event at x t) [],
        )
