-- A train is given its next move: the sections that it takes, and the events of the move.
use Rattle.std.proofs.Common.{◌≡◌, ℕ, suc, ◌+◌, ◌-◌, ◌<◌, Bool, true, false, not, ◌&&◌, cond, eqb, ltb, List, [], ◌∷◌, ◌++◌, length, drop, set, get_or, count_by, Option, Some, None, refl, sym, ap, ◌∙◌, subst, ◌⊎◌, ⊎_elim, arith}
use Rattle.std.proofs.Math.Seq.{drop-cons}
use Rattle.std.specs.List.{list_all}
use Rattle.std.specs.Option.{option_map}
use Rattle.std.proofs.lemmas.Bool.{and_parts, cases_Bool, not-true, ltb-true, false≢true, eq-eqb, or_left, or_right}
use Rattle.std.proofs.lemmas.List.{length-set, get_or-set_other}
use Rattle.std.proofs.lemmas.Option.{none-some}
use Rattle.rail_base.specs.declared.history.Cause.TheVariants.{Blocked}
use Rattle.rail_laws_events.specs.Accounts.{tally}
use Rattle.rail_laws_events.specs.Changes.{freed_before}
use Rattle.rail_block.specs.declared.times.MoveTimes.{MoveTimes}
use Rattle.rail_block.specs.CarriedTimes.{times_at}
use Rattle.rail_state.specs.Events.{deferred_of, end_lines, event_of, is_free_of, step_lines}
use Rattle.rail_laws_step.specs.HolderTables.{bar_holder, held_cause, is_train, taken_by}
use Rattle.rail_queue.specs.declared.event.Event.{Event}
use Rattle.rail_state.specs.declared.train.TrainState.{TrainState}
use Rattle.rail_state.specs.TrainStates.{state_of}
use Rattle.rail_rules.specs.Accepted.{are_distinct_numbers}
use Rattle.rail_rules.specs.Causes.{place}
use Rattle.rail_rules.specs.Fronts.{Front, admissions}
use Rattle.rail_rules.specs.Numbers.{is_in, or_else}
use Rattle.rail_rules.specs.Plant.{Plant}
use Rattle.rail_state.specs.Representation.{forgotten, passing_event, passing_frees}
use Rattle.rail_state.specs.Admissions.{CanBeTaken, IsGivable}
use Rattle.rail_state.proofs.Barring.{unbarred}

-- the holder that bars stays while another section is taken, and so does the cause of taken sections
bar_kept : (h : List (Option ℕ)) (x t : ℕ) (own : List ℕ) (y : ℕ) → eqb y x ≡ false → bar_holder (set h x (Some t)) t own y ≡ bar_holder h t own y
bar_kept h x t own y other = ap (λ o. cond (is_train t o && is_in y own) None o) (get_or-set_other h x y (Some t) None (λ e. false≢true (sym other ∙ eq-eqb y x e)))

cause_kept : (h : List (Option ℕ)) (x t : ℕ) (own xs : List ℕ) → is_in x xs ≡ false → held_cause (set h x (Some t)) t own xs ≡ held_cause h t own xs
cause_kept h x t own [] out = refl
cause_kept h x t own (y ∷ ys) out =
    let here : eqb y x ≡ false = ⊎_elim (λ same. absurd (false≢true (sym out ∙ or_left (eqb y x) (is_in x ys) same))) (λ no_same. no_same) (cases_Bool (eqb y x)) in
    let later : is_in x ys ≡ false = ⊎_elim (λ there. absurd (false≢true (sym out ∙ or_right (eqb y x) (is_in x ys) there))) (λ no_there. no_there) (cases_Bool (is_in x ys)) in
    ap (λ o. or_else (option_map (Blocked y) o) (held_cause (set h x (Some t)) t own ys)) (bar_kept h x t own y here)
    ∙ ap (or_else (option_map (Blocked y) (bar_holder h t own y))) (cause_kept h x t own ys later)

-- no holder of the first of sections that may be taken bars the train
first_free : (h : List (Option ℕ)) (x t : ℕ) (own xs : List ℕ) → CanBeTaken h t own (x ∷ xs) → bar_holder h t own x ≡ None
first_free h x t own xs can = of (bar_holder h t own x) can.free
  where
    of : (o : Option ℕ) → or_else (option_map (Blocked x) o) (held_cause h t own xs) ≡ None → o ≡ None
    of None free = refl
    of (Some u) free = absurd (none-some _ (sym free))

-- so nobody holds it, or the train itself
pub first_holder : (h : List (Option ℕ)) (x t : ℕ) (own xs : List ℕ) → CanBeTaken h t own (x ∷ xs) → (get_or h x None ≡ None) ⊎ (get_or h x None ≡ Some t)
first_holder h x t own xs can = unbarred t x own (get_or h x None) (first_free h x t own xs can)

pub first_known : (h : List (Option ℕ)) (x t : ℕ) (own xs : List ℕ) → CanBeTaken h t own (x ∷ xs) → x < length h
first_known h x t own xs can = ltb-true x (length h) (and_parts (ltb x (length h)) (list_all (λ y. ltb y (length h)) xs) can.known).0

-- the others may be taken after it
pub rest_after : (h : List (Option ℕ)) (x t : ℕ) (own xs : List ℕ) → CanBeTaken h t own (x ∷ xs) → CanBeTaken (set h x (Some t)) t own xs
rest_after h x t own xs can =
    let apart = and_parts (not (is_in x xs)) (are_distinct_numbers xs) can.distinct in
    let free_rest : held_cause h t own xs ≡ None = ap (λ o. or_else (option_map (Blocked x) o) (held_cause h t own xs)) (sym (first_free h x t own xs can)) ∙ can.free in
    let known_rest : list_all (λ y. ltb y (length h)) xs ≡ true = (and_parts (ltb x (length h)) (list_all (λ y. ltb y (length h)) xs) can.known).1 in
    record {
      known = ap (λ n. list_all (λ y. ltb y n) xs) (length-set h x (Some t)) ∙ known_rest;
      distinct = apart.1;
      free = cause_kept h x t own xs (not-true (is_in x xs) apart.0) ∙ free_rest;
    }

-- the sections from an index on begin with the one at the index
pub first_of_rest : (xs : List ℕ) (i x : ℕ) → i < length xs → x ≡ get_or xs i x → drop i xs ≡ x ∷ drop (i + 1) xs
first_of_rest xs i x lt is =
    let next : suc i ≡ i + 1 = omega arith in
    drop-cons xs i x lt ∙ ap (λ y. y ∷ drop (suc i) xs) (sym is) ∙ ap (λ k. x ∷ drop k xs) next

-- what is left to take after the section at the index
pub taken_next : (h : List (Option ℕ)) (xs : List ℕ) (i x t : ℕ) (all : List (Option ℕ)) → drop i xs ≡ x ∷ drop (i + 1) xs → taken_by h (drop i xs) t ≡ all → taken_by (set h x (Some t)) (drop (i + 1) xs) t ≡ all
taken_next h xs i x t all first taken = ap (λ ys. taken_by h ys t) (sym first) ∙ taken

-- what holds of the plant, the train and the place of a move holds of those that it was made of
pub as_made : (P : Plant → ℕ → ℕ → Type 0) {plant plant' : Plant} {t t' place place' : ℕ} → plant ≡ plant' → t ≡ t' → place ≡ place' → P plant t place → P plant' t' place'
as_made P {plant} {plant'} {t} {t'} {place} {place'} same_plant same_train same_place holds =
    subst (P plant' t') same_place (subst (λ u. P plant' u place) same_train (subst (λ x. P x t place) same_plant holds))

-- the place behind the next move, and the one before it
pub record IsNextPlace (front : Front) (t next : ℕ) : Type 0 where
  pub after : next ≡ suc (place front t)
  pub before : next - 1 ≡ place front t

pub next_place : (plant : Plant) (front : Front) (states : List TrainState) (now t : ℕ) (train_state : TrainState) → IsGivable plant front states now t → train_state ≡ state_of states t → IsNextPlace front t (train_state.place + 1)
next_place plant front states now t train_state givable is =
    let here : train_state.place ≡ place front t = ap (λ (r : TrainState). r.place) is ∙ givable.place_is in
    record { after = omega (arith, here); before = omega (arith, here) }

-- what a function that makes the times of a move ensures of them
abbrev pub MakesTimes : Plant → ℕ → ℕ → ℕ → MoveTimes → MoveTimes → Type 0
MakesTimes plant t next now before after = (adms : List ℕ) → length adms ≡ next - 1 → before ≡ times_at plant t adms (next - 1) → after ≡ times_at plant t (adms ++ now ∷ []) next

pub next_times : (plant : Plant) (front : Front) (states : List TrainState) (now t : ℕ) (train_state : TrainState) (times : MoveTimes) → IsGivable plant front states now t
    → train_state ≡ state_of states t → MakesTimes plant t (train_state.place + 1) now train_state.times times
    → times ≡ times_at plant t (admissions front t ++ now ∷ []) (suc (place front t))
next_times plant front states now t train_state times givable is made =
    let at = next_place plant front states now t train_state givable is in
    let carried : train_state.times ≡ times_at plant t (admissions front t) (place front t) = ap (λ (r : TrainState). r.times) is ∙ givable.times_are in
    made (admissions front t) (sym at.before) (carried ∙ ap (times_at plant t (admissions front t)) (sym at.before))
    ∙ ap (times_at plant t (admissions front t ++ now ∷ [])) at.after

-- the events of the move to a place are pending: those known before its beginning, behind which it goes on
abbrev pub ArePushed : Plant → List (Option ℕ) → ℕ → List ℕ → MoveTimes → Option ℕ → (Event → Bool) → List Event → List Event → ℕ → ℕ → Type 0
ArePushed plant holders t adms times arrival q before after next m = count_by q after + count_by q (deferred_of plant t next arrival)
    ≡ count_by (λ e. not (is_free_of (forgotten plant holders t m times) e) && q e) before + tally (λ e. q (event_of e)) (freed_before plant t adms m)
    + count_by q (passing_event t m times) + count_by q (passing_frees plant t m times)
    + tally (λ e. q (event_of e)) (step_lines plant t adms m) + tally (λ e. q (event_of e)) (end_lines plant t adms m)

pub pushed_at : (plant : Plant) (holders : List (Option ℕ)) (front : Front) (t next : ℕ) (adms : List ℕ) (times : MoveTimes) (arrival : Option ℕ) (q : Event → Bool) (before after : List Event)
    → IsNextPlace front t next → ArePushed plant holders t adms times arrival q before after next (next - 1)
    → ArePushed plant holders t adms times arrival q before after (suc (place front t)) (place front t)
pushed_at plant holders front t next adms times arrival q before after at pushed =
    let P : ℕ → Type 0 = λ p. ArePushed plant holders t adms times arrival q before after p (next - 1) in
    let Q : ℕ → Type 0 = ArePushed plant holders t adms times arrival q before after (suc (place front t)) in
    subst Q at.before (subst P at.after pushed)
