-- What is found out at an instant without a line.
use Rattle.std.proofs.Common.{◌≡◌, ℕ, ◌+◌, ◌-◌, ◌<◌, Bool, true, false, not, ◌&&◌, ◌||◌, cond, eqb, List, length, set, Option, Some, None, is_some, refl, sym, ap, ◌∙◌, subst, ⊎_elim, arith}
use Rattle.std.specs.Prelude.{count_by}
use Rattle.std.proofs.lemmas.Bool.{and_parts, and_from, and_right, cases_Bool, eqb-true, eq-eqb, false≢true, cond-true, cond-false, not-true}
use Rattle.std.proofs.lemmas.Option.{same_Some}
use Rattle.std.proofs.lemmas.List.{get_or-set_same, get_or-set_other, length-set}
use Rattle.rail_base.specs.declared.history.Cause.{Cause}
use Rattle.rail_base.specs.declared.history.Cause.TheVariants.{NoList}
use Rattle.rail_laws_step.specs.HolderTables.{own_overlap}
use Rattle.rail_rules.specs.Numbers.{or_else}
use Rattle.rail_rules.specs.Analysis.{finds}
use Rattle.rail_rules.specs.Plant.{Plant, claimed, moves, moves_of, trains}
use Rattle.rail_rules.specs.Fronts.{Front, instant, kept, places, same_cause}
use Rattle.rail_rules.specs.Causes.{is_repairable, list_cause, place, places_after}
use Rattle.rail_state.specs.SeenCauses.{seen_bar, seen_cause}
use Rattle.rail_rules.specs.Orders.{told, Dispatch, input_of}
use Rattle.rail_laws_step.specs.Heads.{IsHead}
use Rattle.rail_list.specs.Repairs.{is_known}
use Rattle.rail_state.specs.declared.train.TrainState.{TrainState}
use Rattle.rail_state.specs.TrainStates.{is_at_first, is_blocked, lacks_hold_line, is_untried, looked_at, state_of}
use Rattle.rail_state.specs.Representation.{AreAllKnown, HaveHoldLines, IsBound, IsDeferred, IsNext, IsTold, Represents, with_trains}
use Rattle.rail_state.proofs.Admitting.{repairable_same}
use Rattle.rail_state.proofs.LineCodes.{one_cause}
use Rattle.rail_state.proofs.Pending.{held_same}
use Rattle.rail_state.specs.declared.run_state.RunState.{RunState}

-- states of which nothing but the known causes is new, and which trains are blocked at the first section
module _ (dispatch : Dispatch) (plant : Plant) (front : Front) (state : RunState) (rep : Represents dispatch plant front state) (states : List TrainState)
    (many : length states ≡ length state.trains) (known_of : ℕ → Option Cause) (first_of : ℕ → Bool)
    (changed : (t : ℕ) → t < trains plant → state_of states t ≡ record (state_of state.trains t) { known = known_of t; at_first = first_of t })
    (holds : (t : ℕ) (why : Cause) → t < trains plant → known_of t ≡ Some why → seen_cause (input_of dispatch plant) front state.holders t ≡ Some why)
    (of_waiting : (t : ℕ) (why : Cause) → t < trains plant → known_of t ≡ Some why → (state_of state.trains t).waits ≡ true)
    (at_first_so : (t : ℕ) (why : Cause) → t < trains plant → known_of t ≡ Some why → first_of t ≡ true → is_blocked why ≡ true → is_at_first (Some why) (claimed plant t (state_of state.trains t).place) ≡ true)
    (keeps : (t : ℕ) → t < trains plant → is_some (state_of state.trains t).known ≡ true → known_of t ≡ (state_of state.trains t).known) where
  same : {B : Type 0} (part : TrainState → B) → ((r : TrainState) (known : Option Cause) (first : Bool) → part (record r { known = known; at_first = first }) ≡ part r) → (t : ℕ) → t < trains plant → part (state_of states t) ≡ part (state_of state.trains t)
  same part kept_part t lt = ap part (changed t lt) ∙ kept_part (state_of state.trains t) (known_of t) (first_of t)

  known_is : (t : ℕ) → t < trains plant → (state_of states t).known ≡ known_of t
  known_is t lt = ap (λ (r : TrainState). r.known) (changed t lt)

  pub found_out : Represents dispatch plant front (with_trains state states)
  found_out = record {
    accepted = rep.accepted;
    lawful = rep.lawful;
    time = rep.time;
    ended = rep.ended;
    begun = rep.begun;
    times = record {
      many = many ∙ rep.times.many;
      places = λ t lt. same (λ r. r.place) (λ r k f. refl) t lt ∙ rep.times.places t lt;
      times = λ t lt. same (λ r. r.times) (λ r k f. refl) t lt ∙ rep.times.times t lt;
    };
    pending = record {
      counted = λ q. ap (λ list. count_by q state.queue.events + count_by q list) (held_same plant state.trains states (λ t lt. same (λ r. r.place) (λ r k f. refl) t lt) (λ t lt. same (λ r. r.deferred) (λ r k f. refl) t lt)) ∙ rep.pending.counted q;
      deferred = λ t at lt held.
          let back = rep.pending.deferred t at lt (sym (same (λ r. r.deferred) (λ r k f. refl) t lt) ∙ held) in
          subst (λ (r : TrainState). IsDeferred plant t (instant front) r at) (sym (changed t lt)) (record { begun = back.begun; left = back.left; unforced = back.unforced; stops = back.stops; early = back.early; still = back.still });
      bound = λ t lt none some left.
          subst (λ (r : TrainState). IsBound plant t r) (sym (changed t lt))
          (rep.pending.bound t lt (sym (same (λ r. r.deferred) (λ r k f. refl) t lt) ∙ none) (subst (λ (r : TrainState). 0 < r.place) (changed t lt) some) (subst (λ (r : TrainState). r.place < moves plant t) (changed t lt) left));
    };
    heads = record {
      place_counts = λ t lt. subst (λ h. 0 < h.place) (sym (same (λ r. r.head) (λ r k f. refl) t lt)) (rep.heads.place_counts t lt);
      step_counts = λ t lt. subst (λ h. 0 < h.step) (sym (same (λ r. r.head) (λ r k f. refl) t lt)) (rep.heads.step_counts t lt);
      heads = λ t lt. subst (λ h. IsHead plant front t (h.place - 1) (h.step - 1)) (sym (same (λ r. r.head) (λ r k f. refl) t lt)) (rep.heads.heads t lt);
    };
    waiting = record {
      ready = λ t lt. same (λ r. r.waits) (λ r k f. refl) t lt ∙ rep.waiting.ready t lt;
      told = λ t lt. same (λ r. r.last_hold) (λ r k f. refl) t lt ∙ rep.waiting.told t lt;
      out = λ t lt. same (λ r. r.is_out) (λ r k f. refl) t lt ∙ rep.waiting.out t lt;
    };
    holders = rep.holders;
    known = record {
      cause = λ t why lt is. holds t why lt (sym (known_is t lt) ∙ is);
      waits = λ t why lt is. same (λ r. r.waits) (λ r k f. refl) t lt ∙ of_waiting t why lt (sym (known_is t lt) ∙ is);
      at_first_section = λ t why lt is first blocked.
          ap (λ p. is_at_first (Some why) (claimed plant t p)) (same (λ r. r.place) (λ r k f. refl) t lt)
          ∙ at_first_so t why lt (sym (known_is t lt) ∙ is) (sym (ap (λ (r : TrainState). r.at_first) (changed t lt)) ∙ first) blocked;
      no_more = λ held t lt waits.
          let was = rep.known.no_more held t lt (sym (same (λ r. r.waits) (λ r k f. refl) t lt) ∙ waits) in
          ap is_some (known_is t lt ∙ keeps t lt was) ∙ was;
    };
    settled = λ settled t lt waits.
        let told = rep.settled settled t lt (sym (same (λ r. r.waits) (λ r k f. refl) t lt) ∙ waits) in
        record {
          why = told.why;
          known = known_is t lt ∙ keeps t lt (ap is_some told.known) ∙ told.known;
          told = same (λ r. r.last_hold) (λ r k f. refl) t lt ∙ told.told;
        };
  }

-- the trains were looked at
pub looked_stands : (dispatch : Dispatch) (plant : Plant) (front : Front) (state : RunState) → Represents dispatch plant front state → (states : List TrainState)
    → length states ≡ length state.trains → ((t : ℕ) → t < trains plant → state_of states t ≡ looked_at plant (seen_bar (told dispatch.commands front) state.holders) t (state_of state.trains t))
    → Represents dispatch plant front (with_trains state states)
looked_stands dispatch plant front state rep states many looked =
    found_out dispatch plant front state rep states many
    (λ t. cond (is_untried (state_of state.trains t)) (seen_bar (told dispatch.commands front) state.holders t (own_overlap plant t (state_of state.trains t).place) (claimed plant t (state_of state.trains t).place)) (state_of state.trains t).known)
    (λ t. cond (is_untried (state_of state.trains t)) (is_at_first (seen_bar (told dispatch.commands front) state.holders t (own_overlap plant t (state_of state.trains t).place) (claimed plant t (state_of state.trains t).place)) (claimed plant t (state_of state.trains t).place)) (state_of state.trains t).at_first)
    looked
    (λ t why lt is.
    ⊎_elim
    (λ untried.
    let held : seen_bar (told dispatch.commands front) state.holders t (own_overlap plant t (place front t)) (claimed plant t (place front t)) ≡ Some why =
    ap (λ p. seen_bar (told dispatch.commands front) state.holders t (own_overlap plant t p) (claimed plant t p)) (sym (rep.times.places t lt))
    ∙ sym (cond-true (is_untried (state_of state.trains t)) (seen_bar (told dispatch.commands front) state.holders t (own_overlap plant t (state_of state.trains t).place) (claimed plant t (state_of state.trains t).place))
    (state_of state.trains t).known untried) ∙ is in
    ap (λ c. or_else c (list_cause (input_of dispatch plant) front t)) held)
    (λ tried. rep.known.cause t why lt (sym (cond-false (is_untried (state_of state.trains t)) (seen_bar (told dispatch.commands front) state.holders t (own_overlap plant t (state_of state.trains t).place) (claimed plant t (state_of state.trains t).place)) (state_of state.trains t).known tried) ∙ is))
    (cases_Bool (is_untried (state_of state.trains t))))
    (λ t why lt is.
    ⊎_elim
    (λ untried. (and_parts (state_of state.trains t).waits (not (is_some (state_of state.trains t).known)) untried).0)
    (λ tried. rep.known.waits t why lt (sym (cond-false (is_untried (state_of state.trains t)) (seen_bar (told dispatch.commands front) state.holders t (own_overlap plant t (state_of state.trains t).place) (claimed plant t (state_of state.trains t).place)) (state_of state.trains t).known tried) ∙ is))
    (cases_Bool (is_untried (state_of state.trains t))))
    (λ t why lt is first blocked.
    let train_state : TrainState = state_of state.trains t in
    let sections : List ℕ = claimed plant t train_state.place in
    let bar : Option Cause = seen_bar (told dispatch.commands front) state.holders t (own_overlap plant t train_state.place) sections in
    ⊎_elim
    (λ untried. ap (λ c. is_at_first c sections) (sym is ∙ cond-true (is_untried train_state) bar train_state.known untried)
    ∙ sym (cond-true (is_untried train_state) (is_at_first bar sections) train_state.at_first untried) ∙ first)
    (λ tried. rep.known.at_first_section t why lt (sym (cond-false (is_untried train_state) bar train_state.known tried) ∙ is)
    (sym (cond-false (is_untried train_state) (is_at_first bar sections) train_state.at_first tried) ∙ first) blocked)
    (cases_Bool (is_untried train_state)))
    (λ t lt some. cond-false (is_untried (state_of state.trains t)) (seen_bar (told dispatch.commands front) state.holders t (own_overlap plant t (state_of state.trains t).place) (claimed plant t (state_of state.trains t).place))
    (state_of state.trains t).known (and_right (state_of state.trains t).waits (not (is_some (state_of state.trains t).known)) (ap not some)))

-- no list is known for a train
pub no_list_stands : (dispatch : Dispatch) (plant : Plant) (front : Front) (state : RunState) → Represents dispatch plant front state → (t : ℕ)
    → IsNext dispatch plant front state.holders state.trains t → is_known (moves_of plant) plant.tables.depth (places plant front) (kept plant front) t ≡ false
    → (states : List TrainState) → states ≡ set state.trains t (record (state_of state.trains t) { known = Some NoList })
    → Represents dispatch plant front (with_trains state states)
no_list_stands dispatch plant front state rep t next unknown states is =
    found_out dispatch plant front state rep states
    (ap length is ∙ length-set state.trains t (record (state_of state.trains t) { known = Some NoList }))
    (λ u. cond (eqb u t) (Some NoList) (state_of state.trains u).known)
    (λ u. (state_of state.trains u).at_first)
    changed
    (λ u why lt k.
    ⊎_elim
    (λ here.
    let e : t ≡ u = sym (eqb-true u t here) in
    let no_list : Some NoList ≡ Some why = sym (cond-true (eqb u t) (Some NoList) (state_of state.trains u).known here) ∙ k in
    subst (λ v. seen_cause (input_of dispatch plant) front state.holders v ≡ Some why) e (seen_none ∙ no_list))
    (λ other. rep.known.cause u why lt (sym (cond-false (eqb u t) (Some NoList) (state_of state.trains u).known other) ∙ k))
    (cases_Bool (eqb u t)))
    (λ u why lt k.
    ⊎_elim
    (λ here. subst (λ v. (state_of state.trains v).waits ≡ true) (sym (eqb-true u t here)) untried.0)
    (λ other. rep.known.waits u why lt (sym (cond-false (eqb u t) (Some NoList) (state_of state.trains u).known other) ∙ k))
    (cases_Bool (eqb u t)))
    (λ u why lt k first blocked.
    ⊎_elim
    (λ here.
    let no_list : Some NoList ≡ Some why = sym (cond-true (eqb u t) (Some NoList) (state_of state.trains u).known here) ∙ k in
    absurd (false≢true (ap is_blocked (same_Some NoList why no_list) ∙ blocked)))
    (λ other. rep.known.at_first_section u why lt (sym (cond-false (eqb u t) (Some NoList) (state_of state.trains u).known other) ∙ k) first blocked)
    (cases_Bool (eqb u t)))
    (λ u lt some.
    ⊎_elim
    (λ here. absurd (false≢true (sym (not-true (is_some (state_of state.trains t).known) untried.1) ∙ subst (λ v. is_some (state_of state.trains v).known ≡ true) (eqb-true u t here) some)))
    (λ other. cond-false (eqb u t) (Some NoList) (state_of state.trains u).known other)
    (cases_Bool (eqb u t)))
  where
    untried : ((state_of state.trains t).waits ≡ true) × (not (is_some (state_of state.trains t).known) ≡ true)
    untried = and_parts (state_of state.trains t).waits (not (is_some (state_of state.trains t).known)) next.untried

    in_list : t < length state.trains
    in_list = omega (arith, next.known_train, rep.times.many)

    changed : (u : ℕ) → u < trains plant → state_of states u ≡ record (state_of state.trains u) { known = cond (eqb u t) (Some NoList) (state_of state.trains u).known }
    changed u lt =
        ⊎_elim
        (λ here.
        let e : t ≡ u = sym (eqb-true u t here) in
        subst (λ v. state_of states v ≡ record (state_of state.trains v) { known = cond (eqb v t) (Some NoList) (state_of state.trains v).known }) e
        (ap (λ list. state_of list t) is ∙ get_or-set_same state.trains t (record (state_of state.trains t) { known = Some NoList }) _ in_list
        ∙ ap (λ k. record (state_of state.trains t) { known = k }) (sym (cond-true (eqb t t) (Some NoList) (state_of state.trains t).known (eq-eqb t t refl)))))
        (λ other.
        ap (λ list. state_of list u) is ∙ get_or-set_other state.trains t u (record (state_of state.trains t) { known = Some NoList }) _ (λ e. false≢true (sym other ∙ eq-eqb u t e))
        ∙ ap (λ k. record (state_of state.trains u) { known = k }) (sym (cond-false (eqb u t) (Some NoList) (state_of state.trains u).known other)))
        (cases_Bool (eqb u t))

    none_known : (is_repairable (input_of dispatch plant) front t || finds (moves_of plant) plant.tables.depth (places_after (input_of dispatch plant) front t)) ≡ false
    none_known = ap (λ b. b || finds (moves_of plant) plant.tables.depth (places_after (input_of dispatch plant) front t)) (repairable_same dispatch plant front t next.known_train) ∙ unknown

    seen_none : seen_cause (input_of dispatch plant) front state.holders t ≡ Some NoList
    seen_none = ap (λ c. or_else c (list_cause (input_of dispatch plant) front t)) next.free ∙ cond-false (is_repairable (input_of dispatch plant) front t || finds (moves_of plant) plant.tables.depth (places_after (input_of dispatch plant) front t)) None (Some NoList) none_known

-- everybody who waits was told why
pub all_told : (plant : Plant) (state : RunState) → AreAllKnown plant state.trains → ((t : ℕ) → t < trains plant → lacks_hold_line (state_of state.trains t) ≡ false) → HaveHoldLines plant state.trains
all_told plant state known told t lt waits =
    of (state_of state.trains t).known refl (known t lt waits)
  where
    of : (k : Option Cause) → (state_of state.trains t).known ≡ k → is_some (state_of state.trains t).known ≡ true → IsTold (state_of state.trains t)
    of None is some = absurd (false≢true (sym (ap is_some is) ∙ some))
    of (Some why) is some = record {
      why = why;
      known = is;
      told =
          ⊎_elim
          (λ same_told. one_cause (state_of state.trains t).last_hold (state_of state.trains t).known same_told ∙ is)
          (λ other. absurd (false≢true (sym (told t lt) ∙ and_from ((state_of state.trains t).waits && is_some (state_of state.trains t).known)
          (not (same_cause (state_of state.trains t).last_hold (state_of state.trains t).known))
          (and_from (state_of state.trains t).waits (is_some (state_of state.trains t).known) waits some) (ap not other))))
          (cases_Bool (same_cause (state_of state.trains t).last_hold (state_of state.trains t).known));
    }

-- then all is settled
pub settled_stands : (dispatch : Dispatch) (plant : Plant) (front : Front) (state : RunState) → Represents dispatch plant front state → HaveHoldLines plant state.trains → Represents dispatch plant front (record state { is_settled = true })
settled_stands dispatch plant front state rep told = record {
  accepted = rep.accepted;
  lawful = rep.lawful;
  time = rep.time;
  ended = rep.ended;
  begun = λ none. refl;
  times = rep.times;
  pending = rep.pending;
  heads = rep.heads;
  waiting = rep.waiting;
  holders = rep.holders;
  known = rep.known;
  settled = λ settled. told;
}
