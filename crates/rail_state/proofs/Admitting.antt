-- An admission: that its line may follow.
use Rattle.std.proofs.Common.{◌≡◌, ℕ, suc, ◌<◌, Bool, true, false, not, ◌&&◌, ◌||◌, cond, eqb, List, ◌∷◌, length, Option, Some, None, is_some, refl, sym, ap, ◌∙◌, subst, ⊎_elim, arith}
use Rattle.std.specs.Prelude.{nat_lt}
use Rattle.std.proofs.lemmas.Bool.{and_from, and_parts, cases_Bool, cond-false, cond-true, eq-eqb, false_from_ne_true, false≢true, lt-ltb, ltb-true, ne_eqb, not-true, not_from_false, or_left, or_right}
use Rattle.rail_base.specs.declared.history.Note.{Note}
use Rattle.rail_base.specs.declared.history.Note.TheVariants.{Pulled, Appended, Fresh}
use Rattle.rail_base.specs.declared.history.Cause.{Cause}
use Rattle.rail_base.specs.declared.history.Cause.TheVariants.{NoList}
use Rattle.rail_rules.specs.Numbers.{comes_before, or_else}
use Rattle.rail_rules.specs.Places.{after, completes, place_of}
use Rattle.rail_rules.specs.Analysis.{finds}
use Rattle.rail_rules.specs.Plant.{Plant, trains, moves, moves_of}
use Rattle.rail_rules.specs.Fronts.{Front, Line, admissions, has_ended, has_held, instant, kept, places, with_rest_of, without_first}
use Rattle.rail_rules.specs.Causes.{bar, cause, could_go, is_deciding, is_ready, is_repairable, list_cause, place, places_after}
use Rattle.rail_rules.specs.Lawful.{is_lawful, may_follow, note_fits}
use Rattle.rail_rules.specs.Orders.{is_cancelled, told, Dispatch, input_of}
use Rattle.rail_rules.specs.RunHistories.{Seat, force_of, is_chosen, is_run, key, repairs_first, seat_of}
use Rattle.rail_rules.proofs.CallerLemmas.{all_below_from}
use Rattle.rail_laws_front.specs.Views.{Admits}
use Rattle.rail_laws_front.proofs.CallerLemmas.{place_in}
use Rattle.rail_list.specs.Repairs.{IsNoted, is_known, is_repairable_for}
use Rattle.rail_laws_step.proofs.CallerLemmas.{admits_follows, run_continued}
use Rattle.rail_state.specs.TrainStates.{is_untried, state_of}
use Rattle.rail_state.specs.Representation.{IsAdmissible, IsNext, MayKeep, Represents, admit_line}
use Rattle.rail_state.proofs.Settling.{bar_seen, cause_seen}
use Rattle.rail_state.specs.declared.run_state.RunState.{RunState}

-- whether the repaired list completes, by the places and the kept list
pub repairable_same : (dispatch : Dispatch) (plant : Plant) (front : Front) (t : ℕ) → t < trains plant → is_repairable (input_of dispatch plant) front t ≡ is_repairable_for (moves_of plant) (places plant front) (kept plant front) t
repairable_same dispatch plant front t known =
    ap (λ p. completes (moves_of plant) (after (places plant front) t) (cond (eqb p 0) (with_rest_of plant t (kept plant front)) (without_first t (kept plant front)))) (sym (place_in plant front t known))

abbrev is_fresh : Note → Bool
is_fresh Fresh = true
is_fresh Pulled = false
is_fresh Appended = false

-- by its note a list is known
noted_known : (dispatch : Dispatch) (plant : Plant) (front : Front) (t : ℕ) (note : Note) (list : List ℕ) → t < trains plant → IsNoted (moves_of plant) plant.tables.depth (places plant front) (kept plant front) t note list
    → (is_repairable (input_of dispatch plant) front t || finds (moves_of plant) plant.tables.depth (places_after (input_of dispatch plant) front t)) ≡ true
noted_known dispatch plant front t Pulled list known noted = or_left (is_repairable (input_of dispatch plant) front t) (finds (moves_of plant) plant.tables.depth (places_after (input_of dispatch plant) front t)) (repairable_same dispatch plant front t known ∙ noted.1)
noted_known dispatch plant front t Appended list known noted = or_left (is_repairable (input_of dispatch plant) front t) (finds (moves_of plant) plant.tables.depth (places_after (input_of dispatch plant) front t)) (repairable_same dispatch plant front t known ∙ noted.1)
noted_known dispatch plant front t Fresh list known noted = or_right (is_repairable (input_of dispatch plant) front t) (finds (moves_of plant) plant.tables.depth (places_after (input_of dispatch plant) front t)) noted.1

-- a train that is ready has a move left
pub left_of_ready : (dispatch : Dispatch) (plant : Plant) (front : Front) (u : ℕ) → is_ready (input_of dispatch plant) front u ≡ true → place front u < moves plant u
left_of_ready dispatch plant front u ready =
    let inner = and_parts (nat_lt (place front u) (moves plant u) && not (is_cancelled u (told dispatch.commands front))) (Rattle.rail_rules.specs.Fronts.stands front (Rattle.rail_rules.specs.Events.ready_line plant u (admissions front u) (place front u))) ready in
    ltb-true (place front u) (moves plant u) (and_parts (nat_lt (place front u) (moves plant u)) (not (is_cancelled u (told dispatch.commands front))) inner.0).0

module _ (dispatch : Dispatch) (plant : Plant) (front : Front) (state : RunState) (rep : Represents dispatch plant front state) (going : has_ended front ≡ false)
    (deciding : is_deciding (input_of dispatch plant) front ≡ true) (t : ℕ) (next : IsAdmissible dispatch plant front state.holders state.trains t) (note : Note) (list : List ℕ)
    (noted : MayKeep (moves_of plant) (places plant front) (kept plant front) t note list) where
  abbrev pub line : Line
  line = admit_line state.instant t (suc (place front t)) note list

  pub waits_it : (state_of state.trains t).waits ≡ true
  waits_it = next.waits

  pub ready_it : is_ready (input_of dispatch plant) front t ≡ true
  ready_it = sym (rep.waiting.ready t next.known_train) ∙ waits_it

  no_bar : is_some (bar (input_of dispatch plant) front t) ≡ false
  no_bar = ap is_some (bar_seen dispatch plant front state rep deciding t ∙ next.free)

  pub no_hold : has_held front ≡ false
  no_hold = next.unheld

  at_place : place_of (places plant front) t ≡ place front t
  at_place = place_in plant front t next.known_train

  fits : note_fits line (place front t) note ≡ true
  fits = of note list noted
    where
      of : (n : Note) (l : List ℕ) → MayKeep (moves_of plant) (places plant front) (kept plant front) t n l → note_fits (admit_line state.instant t (suc (place front t)) n l) (place front t) n ≡ true
      of Pulled l h = lt-ltb 0 (place front t) (subst (λ p. 0 < p) at_place h.0)
      of Appended l h = eq-eqb (place front t) 0 (sym at_place ∙ h.0)
      of Fresh l h = not_from_false (eqb (length l) 0) (ne_eqb (length l) 0 (λ e. omega (arith, e, h.1)))

  -- the kept list is the one of the note
  pub kept_is : kept plant (line ∷ front) ≡ list
  kept_is = of note list noted
    where
      of : (n : Note) (l : List ℕ) → MayKeep (moves_of plant) (places plant front) (kept plant front) t n l → kept plant (admit_line state.instant t (suc (place front t)) n l ∷ front) ≡ l
      of Pulled l h = sym (cond-false (eqb (place_of (places plant front) t) 0) (with_rest_of plant t (kept plant front)) (without_first t (kept plant front)) (ne_eqb (place_of (places plant front) t) 0 (λ e. omega (arith, e, h.0)))) ∙ sym h.2
      of Appended l h = sym (cond-true (eqb (place_of (places plant front) t) 0) (with_rest_of plant t (kept plant front)) (without_first t (kept plant front)) (eq-eqb (place_of (places plant front) t) 0 h.0)) ∙ sym h.2
      of Fresh l h = refl

  completing : completes (moves_of plant) (places_after (input_of dispatch plant) front t) (kept plant (line ∷ front)) ≡ true
  completing = ap (completes (moves_of plant) (after (places plant front) t)) kept_is ∙ of note list noted
    where
      of : (n : Note) (l : List ℕ) → MayKeep (moves_of plant) (places plant front) (kept plant front) t n l → completes (moves_of plant) (after (places plant front) t) l ≡ true
      of Pulled l h = h.1
      of Appended l h = h.1
      of Fresh l h = h.0

  pub admits : Admits (input_of dispatch plant) front line t (suc (place front t)) note
  admits = record {
    what = refl;
    now = rep.time;
    waiting = and_from (is_deciding (input_of dispatch plant) front) (is_ready (input_of dispatch plant) front t) deciding ready_it;
    unbarred = no_bar;
    next = refl;
    no_hold = no_hold;
    fits = fits;
    completing = completing;
  }

  pub follows : may_follow (input_of dispatch plant) front line ≡ true
  follows = admits_follows (input_of dispatch plant) front line t (suc (place front t)) note going admits

  pub lawful_line : is_lawful (input_of dispatch plant) (line ∷ front) ≡ true
  lawful_line = and_from (is_lawful (input_of dispatch plant) front) (may_follow (input_of dispatch plant) front line) rep.lawful follows

-- a train that is next, with a list that a run takes, may be admitted
module _ (dispatch : Dispatch) (plant : Plant) (front : Front) (state : RunState) (rep : Represents dispatch plant front state) (going : has_ended front ≡ false)
    (deciding : is_deciding (input_of dispatch plant) front ≡ true) (t : ℕ) (next : IsNext dispatch plant front state.holders state.trains t) (note : Note) (list : List ℕ)
    (noted : IsNoted (moves_of plant) plant.tables.depth (places plant front) (kept plant front) t note list) where
  untried : ((state_of state.trains t).waits ≡ true) × (not (is_some (state_of state.trains t).known) ≡ true)
  untried = and_parts (state_of state.trains t).waits (not (is_some (state_of state.trains t).known)) next.untried

  pub admissible : IsAdmissible dispatch plant front state.holders state.trains t
  admissible = record {
    known_train = next.known_train;
    waits = untried.0;
    unheld = ⊎_elim
        (λ held. absurd (false≢true (sym (not-true (is_some (state_of state.trains t).known) untried.1) ∙ rep.known.no_more held t next.known_train untried.0)))
        (λ unheld. unheld)
        (cases_Bool (has_held front));
    free = next.free;
  }

  pub may_keep : MayKeep (moves_of plant) (places plant front) (kept plant front) t note list
  may_keep = of note list noted
    where
      of : (n : Note) (l : List ℕ) → IsNoted (moves_of plant) plant.tables.depth (places plant front) (kept plant front) t n l → MayKeep (moves_of plant) (places plant front) (kept plant front) t n l
      of Pulled l h = (h.0, ap (completes (moves_of plant) (after (places plant front) t)) h.2 ∙ h.1, h.2)
      of Appended l h = (h.0, ap (completes (moves_of plant) (after (places plant front) t)) h.2 ∙ h.1, h.2)
      of Fresh l h = (h.2, h.3)

  abbrev pub taken : Line
  taken = admit_line state.instant t (suc (place front t)) note list

  no_cause : cause (input_of dispatch plant) front t ≡ None
  no_cause =
      cause_seen dispatch plant front state rep deciding t
      ∙ ap (λ c. or_else c (list_cause (input_of dispatch plant) front t)) next.free
      ∙ cond-true (is_repairable (input_of dispatch plant) front t || finds (moves_of plant) plant.tables.depth (places_after (input_of dispatch plant) front t)) None (Some NoList) (noted_known dispatch plant front t note list next.known_train noted)

-- a train that is next could go where a list is known
pub goes_known : (dispatch : Dispatch) (plant : Plant) (front : Front) (state : RunState) → Represents dispatch plant front state → is_deciding (input_of dispatch plant) front ≡ true
    → (t : ℕ) → IsNext dispatch plant front state.holders state.trains t → is_known (moves_of plant) plant.tables.depth (places plant front) (kept plant front) t ≡ true
    → could_go (input_of dispatch plant) front t ≡ true
goes_known dispatch plant front state rep deciding t next known =
    let waits = (and_parts (state_of state.trains t).waits (not (is_some (state_of state.trains t).known)) next.untried).0 in
    let found : Bool = finds (moves_of plant) plant.tables.depth (places_after (input_of dispatch plant) front t) in
    let no_cause : cause (input_of dispatch plant) front t ≡ None =
    cause_seen dispatch plant front state rep deciding t
    ∙ ap (λ c. or_else c (list_cause (input_of dispatch plant) front t)) next.free
    ∙ cond-true (is_repairable (input_of dispatch plant) front t || found) None (Some NoList) (ap (λ b. b || found) (repairable_same dispatch plant front t next.known_train) ∙ known) in
    and_from (is_ready (input_of dispatch plant) front t) (not (is_some (cause (input_of dispatch plant) front t))) (sym (rep.waiting.ready t next.known_train) ∙ waits) (ap (λ c. not (is_some c)) no_cause)

-- an admission that obeys the policy in force continues the run
module _ (dispatch : Dispatch) (plant : Plant) (front : Front) (state : RunState) (rep : Represents dispatch plant front state) (seats : List Seat)
    (run : is_run (input_of dispatch plant) seats front ≡ true) (going : has_ended front ≡ false) (deciding : is_deciding (input_of dispatch plant) front ≡ true) (t : ℕ)
    (next : IsNext dispatch plant front state.holders state.trains t) (note : Note) (list : List ℕ)
    (noted : IsNoted (moves_of plant) plant.tables.depth (places plant front) (kept plant front) t note list)
    (chosen : is_chosen (input_of dispatch plant) seats front t ≡ true) where
  pub runs : is_run (input_of dispatch plant) seats (taken dispatch plant front state rep going deciding t next note list noted ∷ front) ≡ true
  runs =
      run_continued (input_of dispatch plant) seats (taken dispatch plant front state rep going deciding t next note list noted) front run
      (follows dispatch plant front state rep going deciding t (admissible dispatch plant front state rep going deciding t next note list noted) note list (may_keep dispatch plant front state rep going deciding t next note list noted))
      (and_from (not (is_some (cause (input_of dispatch plant) front t)) && repairs_first (input_of dispatch plant) front t note) (is_chosen (input_of dispatch plant) seats front t)
      (and_from (not (is_some (cause (input_of dispatch plant) front t))) (repairs_first (input_of dispatch plant) front t note) (ap (λ c. not (is_some c)) (no_cause dispatch plant front state rep going deciding t next note list noted)) (repairs note (λ fresh. of note list noted fresh)))
      chosen)
    where
      repairs : (n : Note) → (n ≡ Fresh → is_repairable (input_of dispatch plant) front t ≡ false) → repairs_first (input_of dispatch plant) front t n ≡ true
      repairs Fresh h = ap not (h refl)
      repairs Pulled h = refl
      repairs Appended h = refl

      of : (n : Note) (l : List ℕ) → IsNoted (moves_of plant) plant.tables.depth (places plant front) (kept plant front) t n l → n ≡ Fresh → is_repairable (input_of dispatch plant) front t ≡ false
      of Fresh l h fresh = repairable_same dispatch plant front t next.known_train ∙ h.0
      of Pulled l h fresh = absurd (false≢true (ap is_fresh fresh))
      of Appended l h fresh = absurd (false≢true (ap is_fresh fresh))

-- a train that could go waits without a known cause
pub could_go-untried : (dispatch : Dispatch) (plant : Plant) (front : Front) (state : RunState) → Represents dispatch plant front state → is_deciding (input_of dispatch plant) front ≡ true
    → (u : ℕ) → u < trains plant → could_go (input_of dispatch plant) front u ≡ true → is_untried (state_of state.trains u) ≡ true
could_go-untried dispatch plant front state rep deciding u lt goes =
    let both = and_parts (is_ready (input_of dispatch plant) front u) (not (is_some (cause (input_of dispatch plant) front u))) goes in
    let waits_u : (state_of state.trains u).waits ≡ true = rep.waiting.ready u lt ∙ both.0 in
    let unknown : is_some (state_of state.trains u).known ≡ false =
    unknown_if (state_of state.trains u).known (λ c k. false≢true (sym (not-true (is_some (cause (input_of dispatch plant) front u)) both.1) ∙ ap is_some (cause_seen dispatch plant front state rep deciding u ∙ rep.known.cause u c lt k))) in
    and_from (state_of state.trains u).waits (not (is_some (state_of state.trains u).known)) waits_u (not_from_false (is_some (state_of state.trains u).known) unknown)
  where
    unknown_if : (o : Option Cause) → ((c : Cause) → o ≡ Some c → ⊥) → is_some o ≡ false
    unknown_if None none = refl
    unknown_if (Some c) none = absurd (none c refl)

-- the train that the policy in force chooses among those whose cause isn't known obeys it
pub chosen_obeys : (dispatch : Dispatch) (plant : Plant) (front : Front) (state : RunState) → Represents dispatch plant front state → is_deciding (input_of dispatch plant) front ≡ true → (seats : List Seat) (t : ℕ)
    → ((u : ℕ) → u < trains plant → is_untried (state_of state.trains u) ≡ true
    → comes_before (key (input_of dispatch plant) seats front u (seat_of seats (force_of (input_of dispatch plant) front)).kind)
    (key (input_of dispatch plant) seats front t (seat_of seats (force_of (input_of dispatch plant) front)).kind) ≡ false)
    → is_chosen (input_of dispatch plant) seats front t ≡ true
chosen_obeys dispatch plant front state rep deciding seats t chosen =
    all_below_from (λ u. not (could_go (input_of dispatch plant) front u
    && comes_before (key (input_of dispatch plant) seats front u (seat_of seats (force_of (input_of dispatch plant) front)).kind)
    (key (input_of dispatch plant) seats front t (seat_of seats (force_of (input_of dispatch plant) front)).kind))) (trains plant)
    (λ u lt. not_from_false (could_go (input_of dispatch plant) front u
    && comes_before (key (input_of dispatch plant) seats front u (seat_of seats (force_of (input_of dispatch plant) front)).kind)
    (key (input_of dispatch plant) seats front t (seat_of seats (force_of (input_of dispatch plant) front)).kind))
    (false_from_ne_true (could_go (input_of dispatch plant) front u
    && comes_before (key (input_of dispatch plant) seats front u (seat_of seats (force_of (input_of dispatch plant) front)).kind)
    (key (input_of dispatch plant) seats front t (seat_of seats (force_of (input_of dispatch plant) front)).kind)) (λ h.
    let parts_of = and_parts (could_go (input_of dispatch plant) front u)
    (comes_before (key (input_of dispatch plant) seats front u (seat_of seats (force_of (input_of dispatch plant) front)).kind)
    (key (input_of dispatch plant) seats front t (seat_of seats (force_of (input_of dispatch plant) front)).kind)) h in
    false≢true (sym (chosen u lt (could_go-untried dispatch plant front state rep deciding u lt parts_of.0)) ∙ parts_of.1))))
