-- What a section that is free again, an order and an admission make of the trains.
use Rattle.std.proofs.Common.{◌≡◌, ℕ, ◌<◌, ◌≤◌, ◌==◌, Bool, true, false, not, ◌&&◌, ◌||◌, cond, is_some, List, [], ◌∷◌, length, set, Option, Some, None, refl, sym, ◌∙◌, ap, subst, ⊎_elim, arith, eqb-true, eq-eqb}
use Rattle.std.proofs.lemmas.Bool.{cases_Bool, cases_eq, cases_lt, cond-false, cond-true, false≢true}
use Rattle.std.proofs.lemmas.Bool.Decides.{nat_tests}
use Rattle.std.proofs.lemmas.List.{get_or_past, set-get_or}
use Rattle.rail_base.specs.declared.history.Cause.{Cause}
use Rattle.rail_base.specs.declared.history.Cause.TheVariants.{Blocked, NoList, Stopped, Closed}
use Rattle.rail_base.specs.declared.orders.Order.{Order}
use Rattle.rail_block.specs.declared.times.MoveTimes.{MoveTimes}
use Rattle.rail_rules.specs.Orders.{is_cancelled}
use Rattle.rail_rules.specs.Plant.{Plant, claimed, trains}
use Rattle.rail_state.specs.declared.train.TrainState.{TrainState}
use Rattle.rail_sets.specs.declared.train_set.TrainSet.{TrainSet}
use Rattle.rail_sets.specs.TrainSets.{has_train}
use Rattle.rail_laws_step.specs.HolderTables.{bar_holder, own_overlap}
use Rattle.rail_state.specs.TrainStates.{AreAtFirst, admitted, after_taking, is_at_first, is_blocked, is_blocked_at, is_blocked_before, is_touched, no_state, outlasts_taking, state_admitted, state_of, state_told, without_known}
use Rattle.rail_state.specs.TrainSearches.{is_changeable}
use Rattle.rail_state.proofs.Sets.{written}
use Rattle.rail_state.proofs.Turned.{IsTaken, IsTurned, others_left, taken_out, turned_at, turned_not}

-- ---- a section is free again

-- the cause is no longer that the section is blocked
pub forgot : (x : ℕ) (train_state : TrainState) → is_blocked_at x (without_known x train_state).known ≡ false
forgot x train_state = by (is_blocked_at x train_state.known) refl
  where
    by : (b : Bool) → is_blocked_at x train_state.known ≡ b → is_blocked_at x (cond b None train_state.known) ≡ false
    by true is = refl
    by false is = is

unblocked : (x : ℕ) (train_state : TrainState) → is_blocked_at x train_state.known ≡ false → without_known x train_state ≡ train_state
unblocked x train_state off = ap (λ b. record train_state { known = cond b None train_state.known }) off

-- the trains that are changed so far, and whether there were any
pub record IsForgotten (x : ℕ) (old now : List TrainState) (left : TrainSet) (any : Bool) : Type 0 where
  pub turned : IsTurned (λ _. without_known x) old now left
  pub none : any ≡ false → (t : ℕ) → state_of now t ≡ state_of old t
  pub some : any ≡ true → (t : ℕ) × (is_blocked_at x (state_of old t).known ≡ true)

module _ (x : ℕ) (old now : List TrainState) (left fewer : TrainSet) (any : Bool) (t : ℕ) (on : has_train left t ≡ true) (taken : IsTaken left fewer t) where
  -- the train was blocked at the section
  pub forgotten_at : t < length now → IsForgotten x old now left any → is_blocked_at x (state_of now t).known ≡ true
      → IsForgotten x old (set now t (without_known x (state_of now t))) fewer true
  forgotten_at lt before is = record {
    turned = turned_at left fewer t taken (λ _. without_known x) old now lt on before.turned;
    none = λ off. absurd (false≢true (sym off));
    some = λ _. (t, ap (λ (r : TrainState). is_blocked_at x r.known) (sym (turned_not (λ _. without_known x) old now left t on before.turned)) ∙ is);
  }

  -- the train wasn't
  pub forgotten_other : t < length now → IsForgotten x old now left any → is_blocked_at x (state_of now t).known ≡ false
      → IsForgotten x old (set now t (without_known x (state_of now t))) fewer any
  forgotten_other lt before off = record {
    turned = turned_at left fewer t taken (λ _. without_known x) old now lt on before.turned;
    none = λ no. written (λ u train_state. train_state ≡ state_of old u) now t (without_known x (state_of now t)) lt
        (unblocked x (state_of now t) off ∙ before.none no t) (λ u _. before.none no u);
    some = before.some;
  }

  -- there is no such train
  pub forgotten_past : length now ≤ t → IsForgotten x old now left any → IsForgotten x old now fewer any
  forgotten_past past before = record {
    turned = record {
      long = before.turned.long;
      each = λ u.
          ⊎_elim
          (λ same.
          subst (λ (k : ℕ). state_of now k ≡ cond (has_train fewer k) (state_of old k) (without_known x (state_of old k))) (sym same)
          (turned_not (λ _. without_known x) old now left t on before.turned
          ∙ sym (ap (without_known x) (get_or_past old t no_state (omega (arith, past, before.turned.long))) ∙ sym (get_or_past old t no_state (omega (arith, past, before.turned.long))))
          ∙ sym (cond-false (has_train fewer t) (state_of old t) (without_known x (state_of old t)) (taken_out left fewer t taken))))
          (λ ne. before.turned.each u ∙ ap (λ b. cond b (state_of old u) (without_known x (state_of old u))) (sym (others_left left fewer t taken u ne)))
          (cases_eq u t);
    };
    none = before.none;
    some = before.some;
  }

-- ---- an order was told

-- no order changes a train that neither waits nor has a known cause
pub told_none : (plant : Plant) (orders : List Order) (t : ℕ) (train_state : TrainState) → train_state.waits ≡ false → train_state.known ≡ None → state_told plant orders t train_state ≡ train_state
told_none plant orders t train_state off none =
    (λ i. record train_state { known = unknown_stays (is_touched plant orders t train_state) i; waits = idle (is_cancelled t orders) i })
  where
    unknown_stays : (b : Bool) → cond b None train_state.known ≡ train_state.known
    unknown_stays true = sym none
    unknown_stays false = refl

    idle : (b : Bool) → (not b && train_state.waits) ≡ train_state.waits
    idle true = sym off
    idle false = refl

-- ---- a train took sections

not_off : (b : Bool) → not b ≡ false → b ≡ true
not_off true is = refl
not_off false is = absurd (false≢true (sym is))

same_cond : (b : Bool) → cond {A = Option Cause} b None None ≡ None
same_cond true = refl
same_cond false = refl

-- no section before the first one is taken
none_before : (holders : List (Option ℕ)) (t : ℕ) (own : List ℕ) (x u : ℕ) (sections : List ℕ) → is_at_first (Some (Blocked x u)) sections ≡ true → is_blocked_before holders t own x sections ≡ false
none_before holders t own x u [] is = absurd (false≢true is)
none_before holders t own x u (y ∷ sections) is = ap (λ b. not b && (is_some (bar_holder holders t own y) || is_blocked_before holders t own x sections)) (eq-eqb y x (sym (eqb-true x y is)))

-- a train whose cause is not changeable is as it was
pub unchangeable_same : (plant : Plant) (holders : List (Option ℕ)) (t : ℕ) (train_state : TrainState) → (train_state.waits ≡ false → train_state.known ≡ None)
    → ((why : Cause) → train_state.known ≡ Some why → train_state.at_first ≡ true → is_blocked why ≡ true → is_at_first (Some why) (claimed plant t train_state.place) ≡ true)
    → is_changeable train_state ≡ false → after_taking plant holders t train_state ≡ train_state
unchangeable_same plant holders t train_state waits at_first_section off = ap (λ known. record train_state { known = known }) (by train_state.known refl)
  where
    sections : List ℕ
    sections = claimed plant t train_state.place

    own : List ℕ
    own = own_overlap plant t train_state.place

    outlasts : (why : Cause) → train_state.known ≡ Some why → outlasts_taking holders t own sections (Some why) ≡ true
    outlasts (Blocked x u) is =
        let changeable : is_changeable (record train_state { known = Some (Blocked x u) }) ≡ false = ap (λ known. is_changeable (record train_state { known = known })) (sym is) ∙ off in
        ap not (none_before holders t own x u sections (at_first_section (Blocked x u) is (not_off train_state.at_first changeable) refl))
    outlasts NoList is = absurd (false≢true (sym (ap (λ known. is_changeable (record train_state { known = known })) (sym is) ∙ off)))
    outlasts Stopped is = refl
    outlasts (Closed x) is = refl

    waiting : (why : Cause) → train_state.known ≡ Some why → train_state.waits ≡ true
    waiting why is = ⊎_elim (λ on. on) (λ none. absurd (false≢true (ap is_some (sym (waits none) ∙ is)))) (cases_Bool train_state.waits)

    by : (known : Option Cause) → train_state.known ≡ known → cond (train_state.waits && outlasts_taking holders t own sections train_state.known) train_state.known None ≡ train_state.known
    by None is = ap (λ known. cond (train_state.waits && outlasts_taking holders t own sections known) known None) is ∙ same_cond (train_state.waits && true) ∙ sym is
    by (Some why) is =
        ap (λ b. cond (b && outlasts_taking holders t own sections train_state.known) train_state.known None) (waiting why is)
        ∙ ap (λ b. cond b train_state.known None) (ap (outlasts_taking holders t own sections) is ∙ outlasts why is)

-- where the cause of a train is not changeable, the train is as it was
pub unchangeable_each : (plant : Plant) (holders : List (Option ℕ)) (old : List TrainState) → length old ≡ trains plant
    → ((t : ℕ) → (state_of old t).waits ≡ false → (state_of old t).known ≡ None) → AreAtFirst plant old → (t : ℕ) → is_changeable (state_of old t) ≡ false
    → after_taking plant holders t (state_of old t) ≡ state_of old t
unchangeable_each plant holders old all waits at_first_section t off =
    ⊎_elim
    (λ low. unchangeable_same plant holders t (state_of old t) (waits t) (λ why. at_first_section t why (omega (arith, low, all))) off)
    (λ past. subst (λ (r : TrainState). after_taking plant holders t r ≡ r) (sym (get_or_past old t no_state past)) refl)
    (cases_lt t (length old))

-- an admission changes the trains so
pub admitted_each : (plant : Plant) (holders : List (Option ℕ)) (old mid : List TrainState) (t : ℕ) (times : MoveTimes) (arrival : Option ℕ)
    → ((u : ℕ) → state_of mid u ≡ after_taking plant holders u (state_of old u)) → t < length mid → (u : ℕ)
    → state_of (set mid t (admitted times arrival (state_of mid t))) u ≡ state_admitted plant holders t times arrival u (state_of old u)
admitted_each plant holders old mid t times arrival each lt =
    written (λ u now. now ≡ state_admitted plant holders t times arrival u (state_of old u)) mid t (admitted times arrival (state_of mid t)) lt
    (ap (admitted times arrival) (each t) ∙ sym (cond-true (t == t) (admitted times arrival (state_of old t)) (after_taking plant holders t (state_of old t)) (eq-eqb t t refl)))
    (λ u ne. each u ∙ sym (cond-false (t == u) (admitted times arrival (state_of old u)) (after_taking plant holders u (state_of old u)) (grind (arith, nat_tests))))

-- a train that wasn't blocked at the section is written as it was
pub forgotten_same : (x : ℕ) (states : List TrainState) (t : ℕ) (now : TrainState) → t < length states → is_blocked_at x (state_of states t).known ≡ false → now ≡ without_known x (state_of states t) → set states t now ≡ states
forgotten_same x states t now lt off now_is =
    ap (set states t) (now_is ∙ unblocked x (state_of states t) off) ∙ set-get_or states t no_state
