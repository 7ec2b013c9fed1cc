-- What looking at the trains gives.
use Rattle.std.proofs.Common.{◌≡◌, ℕ, zero, suc, ◌<◌, ◌≤◌, Bool, true, false, not, ◌&&◌, cond, List, length, Option, Some, None, is_some, refl, sym, ap, ◌∙◌, subst, ◌⊎◌, ⊎_elim, arith}
use Rattle.std.specs.Prelude.{IfSome, MatchOption}
use Rattle.std.proofs.lemmas.Bool.{and_parts, cases_Bool, cond-true, cond-false, false≢true, not-true}
use Rattle.rail_base.specs.declared.history.Cause.{Cause}
use Rattle.rail_rules.specs.Numbers.{sum_below}
use Rattle.rail_rules.specs.Plant.{Plant, claimed, trains}
use Rattle.rail_laws_step.specs.HolderTables.{own_overlap}
use Rattle.rail_rules.specs.Fronts.{Front}
use Rattle.rail_rules.specs.Causes.{place}
use Rattle.rail_state.specs.declared.train.TrainState.{TrainState}
use Rattle.rail_rules.specs.Orders.{told}
use Rattle.rail_state.specs.SeenCauses.{seen_bar}
use Rattle.rail_state.specs.TrainStates.{IsReadyFirst, bar_by, is_at_first, is_untried, looked_at, state_of}
use Rattle.rail_state.specs.Representation.{IsNext}
use Rattle.rail_state.proofs.CallerLemmas.{looked_stands}
use Rattle.rail_ledger.specs.declared.ledger.Ledger.{Ledger}
use Rattle.rail_ledger.specs.Ledgers.{AreUnbarred, IsAt, IsNextTrain, IsUnbarred, untried}
use Rattle.rail_ledger.specs.Inputs.{dispatch_in, input_in}
use Rattle.rail_ledger.proofs.Admissions.{left_of}
use Rattle.rail_ledger.proofs.Ordered.{bar_is, input_parts, sections_known}

-- what bars the next move is the same by both, where the train is untried
same_look : (plant : Plant) (one two : ℕ → List ℕ → List ℕ → Option Cause) (t : ℕ) (r : TrainState)
    → (is_untried r ≡ true → one t (own_overlap plant t r.place) (claimed plant t r.place) ≡ two t (own_overlap plant t r.place) (claimed plant t r.place)) → looked_at plant one t r ≡ looked_at plant two t r
same_look plant one two t r same =
    let sections : List ℕ = claimed plant t r.place in
    let own : List ℕ = own_overlap plant t r.place in
    let by : Bool → Option Cause → TrainState = λ b bar. record r { known = cond b bar r.known; at_first = cond b (is_at_first bar sections) r.at_first } in
    ⊎_elim
    (λ untried. ap (by (is_untried r)) (same untried))
    (λ tried. ap (λ (b : Bool). by b (one t own sections)) tried ∙ sym (ap (λ (b : Bool). by b (two t own sections)) tried))
    (cases_Bool (is_untried r))

-- a look by the tables is one by the orders that were told
looked_same : (front : Front) (ledger : Ledger) → IsAt front ledger → (t : ℕ) → t < trains ledger.input.plant
    → looked_at ledger.input.plant (bar_by ledger.orders ledger.state.holders) t (state_of ledger.state.trains t)
    ≡ looked_at ledger.input.plant (seen_bar (told ledger.input.commands.items front) ledger.state.holders) t (state_of ledger.state.trains t)
looked_same front ledger at t lt =
    let train_state : TrainState = state_of ledger.state.trains t in
    same_look ledger.input.plant (bar_by ledger.orders ledger.state.holders) (seen_bar (told ledger.input.commands.items front) ledger.state.holders) t train_state
    (λ untried.
    let waits = (and_parts train_state.waits (not (is_some train_state.known)) untried).0 in
    bar_is front ledger at t lt (own_overlap ledger.input.plant t train_state.place) (claimed ledger.input.plant t train_state.place)
    (sections_known ledger.input.plant (input_parts (input_in ledger.input) at.accepted).plant t lt train_state.place (omega (arith, at.rep.times.places t lt, left_of front ledger at t waits))))

pub looked : (front : Front) (ledger : Ledger) → IsAt front ledger → (states : List TrainState) → length states ≡ length ledger.state.trains
    → ((t : ℕ) → t < length ledger.state.trains → state_of states t ≡ looked_at ledger.input.plant (bar_by ledger.orders ledger.state.holders) t (state_of ledger.state.trains t))
    → IsAt front (record ledger { state = record ledger.state { trains = states } })
looked front ledger at states many each = record {
  accepted = at.accepted;
  ordered = at.ordered;
  rep = looked_stands (dispatch_in ledger.input) ledger.input.plant front ledger.state at.rep states many (λ t lt.
      each t (omega (arith, lt, at.rep.times.many)) ∙ looked_same front ledger at t lt);
  placed = at.placed;
  keeps = at.keeps;
  queue_room = at.queue_room;
  list_room = at.list_room;
  list_empty = at.list_empty;
  searcher = at.searcher;
  failures = at.failures;
}

-- who is untried after the look was so before, and no taken section bars the train
untried_before : (plant : Plant) (bar : ℕ → List ℕ → List ℕ → Option Cause) (t : ℕ) (old new : TrainState) → new ≡ looked_at plant bar t old → is_untried new ≡ true → (is_untried old ≡ true) × (bar t (own_overlap plant t old.place) (claimed plant t old.place) ≡ None)
untried_before plant bar t old new is untried_now =
    ⊎_elim
    (λ before.
    let known : new.known ≡ bar t (own_overlap plant t old.place) (claimed plant t old.place) = ap (λ (r : TrainState). r.known) is ∙ cond-true (is_untried old) (bar t (own_overlap plant t old.place) (claimed plant t old.place)) old.known before in
    (before, none_of (bar t (own_overlap plant t old.place) (claimed plant t old.place)) (ap is_some (sym known) ∙ not-true (is_some new.known) (and_parts new.waits (not (is_some new.known)) untried_now).1)))
    (λ not_before.
    let known : new.known ≡ old.known = ap (λ (r : TrainState). r.known) is ∙ cond-false (is_untried old) (bar t (own_overlap plant t old.place) (claimed plant t old.place)) old.known not_before in
    let waits : new.waits ≡ old.waits = ap (λ (r : TrainState). r.waits) is in
    absurd (false≢true (sym not_before ∙ (λ i. sym waits i && not (is_some (sym known i))) ∙ untried_now)))
    (cases_Bool (is_untried old))
  where
    none_of : (o : Option Cause) → is_some o ≡ false → o ≡ None
    none_of None h = refl
    none_of (Some c) h = absurd (false≢true (sym h))

pub next_found : (ledger : Ledger) (states : List TrainState) → length states ≡ length ledger.state.trains → ((t : ℕ) → t < length ledger.state.trains → state_of states t ≡ looked_at ledger.input.plant (bar_by ledger.orders ledger.state.holders) t (state_of ledger.state.trains t))
    → (o : Option ℕ) → MatchOption o ((t : ℕ) → is_untried (state_of states t) ≡ false) (λ t. (t < length states) × IsReadyFirst states t)
    → IfSome o (λ t. (front : Front) → IsAt front (record ledger { state = record ledger.state { trains = states } }) → IsNext (dispatch_in ledger.input) ledger.input.plant front ledger.state.holders states t)
next_found ledger states many each None first = tt
next_found ledger states many each (Some t) first = λ front at.
    let lt : t < length ledger.state.trains = omega (arith, first.0, many) in
    let before = untried_before ledger.input.plant (bar_by ledger.orders ledger.state.holders) t (state_of ledger.state.trains t) (state_of states t) (each t lt) first.1.untried in
    let known : t < trains ledger.input.plant = omega (arith, first.0, at.rep.times.many) in
    record {
      known_train = known;
      untried = first.1.untried;
      free = sym (bar_is front (record ledger { state = record ledger.state { trains = states } }) at t known (own_overlap ledger.input.plant t (place front t)) (claimed ledger.input.plant t (place front t))
          (sections_known ledger.input.plant (input_parts (input_in ledger.input) at.accepted).plant t known (place front t)
          (left_of front (record ledger { state = record ledger.state { trains = states } }) at t (and_parts (state_of states t).waits (not (is_some (state_of states t).known)) first.1.untried).0)))
          ∙ ap (λ p. bar_by ledger.orders ledger.state.holders t (own_overlap ledger.input.plant t p) (claimed ledger.input.plant t p)) (sym (at.rep.times.places t known) ∙ ap (λ (r : TrainState). r.place) (each t lt)) ∙ before.1;
    }

pub first_found : (states : List TrainState) (o : Option ℕ) → MatchOption o ((t : ℕ) → is_untried (state_of states t) ≡ false) (λ t. (t < length states) × IsReadyFirst states t) → IfSome o (IsReadyFirst states)
first_found states None first = tt
first_found states (Some t) first = first.1

sum_le : (f g : ℕ → ℕ) (n : ℕ) → ((i : ℕ) → i < n → f i ≤ g i) → sum_below f n ≤ sum_below g n
sum_le f g zero each = omega arith
sum_le f g (suc n) each = omega (arith, sum_le f g n (λ i lt. each i (omega (arith, lt))), each n (omega arith))

pub no_more_untried : (plant : Plant) (bar : ℕ → List ℕ → List ℕ → Option Cause) (old new : List TrainState) → length new ≡ length old → ((t : ℕ) → t < length old → state_of new t ≡ looked_at plant bar t (state_of old t)) → untried new ≤ untried old
no_more_untried plant bar old new many each =
    subst (λ n. sum_below (λ t. cond (is_untried (state_of new t)) 1 0) n ≤ untried old) (sym many)
    (sum_le (λ t. cond (is_untried (state_of new t)) 1 0) (λ t. cond (is_untried (state_of old t)) 1 0) (length old) (λ t lt. one t lt (cases_Bool (is_untried (state_of new t)))))
  where
    one : (t : ℕ) → t < length old → (is_untried (state_of new t) ≡ true) ⊎ (is_untried (state_of new t) ≡ false) → cond (is_untried (state_of new t)) 1 0 ≤ cond (is_untried (state_of old t)) 1 0
    one t lt h =
        ⊎_elim
        (λ is. omega (arith, cond-true {A = ℕ} (is_untried (state_of new t)) 1 0 is, cond-true {A = ℕ} (is_untried (state_of old t)) 1 0 (untried_before plant bar t (state_of old t) (state_of new t) (each t lt) is).0))
        (λ is_no. omega (arith, cond-false {A = ℕ} (is_untried (state_of new t)) 1 0 is_no))
        h

-- nothing bars those that are untried after the look
pub unbarred_found : (ledger : Ledger) (states : List TrainState) → length states ≡ length ledger.state.trains
    → ((t : ℕ) → t < length ledger.state.trains → state_of states t ≡ looked_at ledger.input.plant (bar_by ledger.orders ledger.state.holders) t (state_of ledger.state.trains t))
    → AreUnbarred (record ledger { state = record ledger.state { trains = states } })
unbarred_found ledger states many each = λ t lt untried.
    let here : t < length ledger.state.trains = omega (arith, lt, many) in
    let bar : ℕ → List ℕ → List ℕ → Option Cause = bar_by ledger.orders ledger.state.holders in
    ap (λ (r : TrainState). bar t (own_overlap ledger.input.plant t r.place) (claimed ledger.input.plant t r.place)) (each t here)
    ∙ (untried_before ledger.input.plant bar t (state_of ledger.state.trains t) (state_of states t) (each t here) untried).1

-- a train that waits without a known cause and that nothing bars is next
pub next_unbarred : (ledger : Ledger) (t : ℕ) → t < length ledger.state.trains → is_untried (state_of ledger.state.trains t) ≡ true → IsUnbarred ledger t → IsNextTrain ledger t
next_unbarred ledger t lt untried unbarred = λ front at.
    let known : t < trains ledger.input.plant = omega (arith, lt, at.rep.times.many) in
    let waits = (and_parts (state_of ledger.state.trains t).waits (not (is_some (state_of ledger.state.trains t).known)) untried).0 in
    record {
      known_train = known;
      untried = untried;
      free = sym (bar_is front ledger at t known (own_overlap ledger.input.plant t (place front t)) (claimed ledger.input.plant t (place front t))
          (sections_known ledger.input.plant (input_parts (input_in ledger.input) at.accepted).plant t known (place front t) (left_of front ledger at t waits)))
          ∙ ap (λ p. bar_by ledger.orders ledger.state.holders t (own_overlap ledger.input.plant t p) (claimed ledger.input.plant t p)) (sym (at.rep.times.places t known)) ∙ unbarred;
    }
