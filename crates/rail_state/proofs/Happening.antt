-- An event line: what it changes.
use Rattle.std.proofs.Common.{◌≡◌, ℕ, suc, ◌+◌, ◌-◌, ◌<◌, Bool, true, false, cond, List, ◌∷◌, Option, Some, None, is_some, refl, sym, ap, ◌∙◌, subst, ◌⊎◌, inl, inr, ⊎_elim, arith}
use Rattle.std.specs.Prelude.{nat_lt}
use Rattle.std.proofs.lemmas.Bool.{cases_Bool, eq-eqb, false≢true, cond-true, cond-false}
use Rattle.std.proofs.lemmas.Option.{none-some}
use Rattle.rail_base.specs.declared.history.Cause.{Cause}
use Rattle.rail_base.specs.declared.history.What.{What}
use Rattle.rail_base.specs.declared.history.What.TheVariants.{Free, Arrive, Enter, Out, Ready, Told, Untold, Admit, Hold, End}
use Rattle.rail_laws_step.specs.HolderTables.{own_overlap}
use Rattle.rail_rules.specs.Plant.{Plant, is_forced, trains, moves, claimed, steps}
use Rattle.rail_rules.specs.Times.{stop_time}
use Rattle.rail_rules.specs.Fronts.{Front, Line, admissions, is_admission, is_hold}
use Rattle.rail_rules.specs.Events.{enter_line}
use Rattle.rail_rules.specs.Causes.{last_hold, list_cause, place}
use Rattle.rail_rules.specs.Lawful.{is_lawful, is_out_line}
use Rattle.rail_laws_front.specs.Premises.{IsWellFormed}
use Rattle.rail_laws_events.specs.Accounts.{is_train_event}
use Rattle.rail_laws_step.specs.HolderTables.{AreHolders}
use Rattle.rail_laws_step.specs.Heads.{IsHead, enters, next_move, next_step}
use Rattle.rail_block.specs.CarriedTimes.{times_at}
use Rattle.rail_state.specs.declared.train.Head.{Head}
use Rattle.rail_state.specs.declared.train.TrainState.{TrainState}
use Rattle.rail_state.specs.TrainStates.{head_behind, is_blocked_at, state_after, state_of}
use Rattle.rail_state.specs.Representation.{AreHeads, AreKnown, HaveHoldLines, AreWaiting, IsBound, IsDeferred, Represents, StaysSettled, bare_at, holders_after}
use Rattle.rail_state.proofs.Below.{ready_runs, becomes_ready, well_formed_plant, head_enters, head_kept, hold_kept, holder_frees, holders_kept, out_kept, out_now, ready_kept, unheld_before_ready}
use Rattle.rail_state.proofs.Fields.{unchanged}
use Rattle.rail_laws_step.proofs.CallerLemmas.{train_event_no_command}
use Rattle.rail_laws_front.proofs.CallerLemmas.{was_running}
use Rattle.rail_state.proofs.Seen.{seen_kept, seen_unfreed}
use Rattle.rail_rules.specs.Orders.{told, Dispatch, input_of}
use Rattle.rail_rules.specs.Causes.{closed_cause, stop_cause}
use Rattle.rail_state.proofs.Next.{carried_ready}
use Rattle.rail_state.proofs.Times.{place_kept}
use Rattle.rail_state.proofs.Freed.{kept_cause}
use Rattle.rail_state.proofs.FirstSections.{at_first_kept}
use Rattle.rail_state.proofs.Lines.{EntersOne, FreesOne, enter_view, free_view, is_free_line, is_ready_line, out_view, ready_view}
use Rattle.rail_state.proofs.Changed.{head_next, head_same, known_kept, out_now_state, out_same, waits_kept, waits_now}
use Rattle.rail_state.specs.declared.run_state.RunState.{RunState}
use Rattle.rail_state.specs.SeenCauses.{seen_cause}

pub event_idle : (w : What) → is_train_event w ≡ true → is_admission w ≡ false
event_idle (Admit t m note) kind = absurd (false≢true kind)
event_idle (Free x t) kind = refl
event_idle (Arrive t m) kind = refl
event_idle (Enter t m x) kind = refl
event_idle (Out t) kind = refl
event_idle (Ready t m) kind = refl
event_idle (Told k) kind = refl
event_idle (Untold k) kind = refl
event_idle (Hold t m why) kind = refl
event_idle End kind = refl

event_no_hold : (w : What) → is_train_event w ≡ true → is_hold w ≡ false
event_no_hold (Hold t m why) kind = absurd (false≢true kind)
event_no_hold (Free x t) kind = refl
event_no_hold (Arrive t m) kind = refl
event_no_hold (Enter t m x) kind = refl
event_no_hold (Out t) kind = refl
event_no_hold (Ready t m) kind = refl
event_no_hold (Told k) kind = refl
event_no_hold (Untold k) kind = refl
event_no_hold (Admit t m note) kind = refl
event_no_hold End kind = refl

-- a head behind a step is at the next one
head_goes_on : (plant : Plant) (t : ℕ) (head : Head) → 0 < head.place → 0 < head.step
    → ((head_behind plant t head).place - 1 ≡ next_move plant t (head.place - 1) (head.step - 1)) × ((head_behind plant t head).step - 1 ≡ next_step plant t (head.place - 1) (head.step - 1))
head_goes_on plant t head some_place some_step =
    let k : ℕ = steps plant t (head.place - 1) in
    let inner : Bool = nat_lt head.step k in
    let same : nat_lt (suc (head.step - 1)) k ≡ inner = ap (λ n. nat_lt n k) (omega (arith, some_step)) in
    of inner (nat_lt (suc (head.step - 1)) k) same
  where
    of : (b c : Bool) → c ≡ b
        → ((cond b (record { place = head.place; step = head.step + 1 }) (let after : Head = record { place = head.place + 1; step = 1 } in after)).place - 1 ≡ cond c (head.place - 1) (suc (head.place - 1)))
        × ((cond b (record { place = head.place; step = head.step + 1 }) (let after : Head = record { place = head.place + 1; step = 1 } in after)).step - 1 ≡ cond c (suc (head.step - 1)) 0)
    of true c e = (sym (cond-true {A = ℕ} c (head.place - 1) (suc (head.place - 1)) e), omega (arith, some_step) ∙ sym (cond-true {A = ℕ} c (suc (head.step - 1)) 0 e))
    of false c e = (omega (arith, some_place) ∙ sym (cond-false {A = ℕ} c (head.place - 1) (suc (head.place - 1)) e), sym (cond-false {A = ℕ} c (suc (head.step - 1)) 0 e))

head_counts : (plant : Plant) (t : ℕ) (head : Head) → 0 < head.place → (0 < (head_behind plant t head).place) × (0 < (head_behind plant t head).step)
head_counts plant t head some = of (nat_lt head.step (steps plant t (head.place - 1)))
  where
    of : (b : Bool) → (0 < (cond b (record { place = head.place; step = head.step + 1 }) (let after : Head = record { place = head.place + 1; step = 1 } in after)).place)
        × (0 < (cond b (record { place = head.place; step = head.step + 1 }) (let after : Head = record { place = head.place + 1; step = 1 } in after)).step)
    of true = (some, omega arith)
    of false = (omega arith, omega arith)

-- of an event line of these trains
module _ (dispatch : Dispatch) (plant : Plant) (front : Front) (state : RunState) (rep : Represents dispatch plant front state) (at : ℕ) (w : What)
    (lawful : is_lawful (input_of dispatch plant) (bare_at at w ∷ front) ≡ true) (kind : is_train_event w ≡ true) (after : List TrainState)
    (changed : (t : ℕ) → t < trains plant → state_of after t ≡ state_after plant w t (state_of state.trains t)) where
  abbrev pub line : Line
  line = bare_at at w

  fine : IsWellFormed plant
  fine = well_formed_plant plant rep.accepted

  same_part : {B : Type 0} (part : TrainState → B)
      → ((r : TrainState) (known : Option Cause) → part (record r { known = known }) ≡ part r)
      → ((r : TrainState) (head : Head) → part (record r { head = head }) ≡ part r)
      → ((r : TrainState) (waits : Bool) → part (record r { waits = waits }) ≡ part r)
      → ((r : TrainState) (out : Bool) → part (record r { is_out = out }) ≡ part r)
      → (t : ℕ) → t < trains plant → part (state_of after t) ≡ part (state_of state.trains t)
  same_part part known head waits out t lt =
      ap part (changed t lt) ∙ unchanged part plant t (state_of state.trains t) (known (state_of state.trains t)) (head (state_of state.trains t)) (waits (state_of state.trains t)) (out (state_of state.trains t)) w

  pub same_place : (t : ℕ) → t < trains plant → (state_of after t).place ≡ (state_of state.trains t).place
  same_place = same_part (λ r. r.place) (λ r k. refl) (λ r k. refl) (λ r k. refl) (λ r k. refl)

  pub same_times : (t : ℕ) → t < trains plant → (state_of after t).times ≡ (state_of state.trains t).times
  same_times = same_part (λ r. r.times) (λ r k. refl) (λ r k. refl) (λ r k. refl) (λ r k. refl)

  pub same_arrival : (t : ℕ) → t < trains plant → (state_of after t).deferred ≡ (state_of state.trains t).deferred
  same_arrival = same_part (λ r. r.deferred) (λ r k. refl) (λ r k. refl) (λ r k. refl) (λ r k. refl)

  pub same_told : (t : ℕ) → t < trains plant → (state_of after t).last_hold ≡ (state_of state.trains t).last_hold
  same_told = same_part (λ r. r.last_hold) (λ r k. refl) (λ r k. refl) (λ r k. refl) (λ r k. refl)

  same_first : (t : ℕ) → t < trains plant → (state_of after t).at_first ≡ (state_of state.trains t).at_first
  same_first = same_part (λ r. r.at_first) (λ r k. refl) (λ r k. refl) (λ r k. refl) (λ r k. refl)

  idle : is_admission w ≡ false
  idle = event_idle w kind

  at_times : (t : ℕ) → t < trains plant → (state_of state.trains t).times ≡ times_at plant t (admissions front t) (place front t)
  at_times = rep.times.times

  lawful_before_it : is_lawful (input_of dispatch plant) front ≡ true
  lawful_before_it = rep.lawful

  -- a train that becomes ready has its ready time, and wasn't held yet
  pub ready_now : (t m : ℕ) → t < trains plant → w ≡ Ready t m → ((state_of state.trains t).times.next_ready ≡ at) × ((state_of state.trains t).last_hold ≡ None)
  ready_now t m lt is =
      let becomes = becomes_ready (input_of dispatch plant) fine line front lawful t m is in (
        ap (λ times. times.next_ready) (at_times t lt) ∙ carried_ready plant t (admissions front t) (place front t) becomes.left ∙ sym becomes.when,
        rep.waiting.told t lt ∙ unheld_before_ready (input_of dispatch plant) front lawful_before_it t (was_running dispatch.commands line front t (ready_runs (input_of dispatch plant) (line ∷ front) t becomes.after)) becomes.before,
      )

  waits_same : (t : ℕ) → t < trains plant → ((m : ℕ) → w ≡ Ready t m → ⊥) → (state_of after t).waits ≡ (state_of state.trains t).waits
  waits_same t lt other = ap (λ (r : TrainState). r.waits) (changed t lt) ∙ waits_kept plant t (state_of state.trains t) w other

  waits_true : (t m : ℕ) → t < trains plant → w ≡ Ready t m → (state_of after t).waits ≡ true
  waits_true t m lt is = ap (λ (r : TrainState). r.waits) (changed t lt ∙ ap (λ v. state_after plant v t (state_of state.trains t)) is) ∙ waits_now plant t (state_of state.trains t) m

  waits_on : (t : ℕ) → t < trains plant → (state_of state.trains t).waits ≡ true → (state_of after t).waits ≡ true
  waits_on t lt waits = ⊎_elim (λ now. waits_true t now.0 lt now.1) (λ other. waits_same t lt other ∙ waits) (ready_view t w)

  pub waiting_after : AreWaiting dispatch plant (line ∷ front) after
  waiting_after = record {
    ready = λ t lt.
        ⊎_elim
        (λ now. waits_true t now.0 lt now.1 ∙ sym (becomes_ready (input_of dispatch plant) fine line front lawful t now.0 now.1).after)
        (λ other. waits_same t lt other ∙ rep.waiting.ready t lt ∙ sym (ready_kept (input_of dispatch plant) line front lawful idle (train_event_no_command w kind) t other))
        (ready_view t w);
    told = λ t lt.
        same_told t lt ∙ rep.waiting.told t lt
        ∙ sym (hold_kept line front t (suc (place front t)) (event_no_hold w kind))
        ∙ sym (ap (λ p. last_hold (line ∷ front) t (suc p)) (place_kept line front t idle));
    out = λ t lt.
        ⊎_elim
        (λ now. ap (λ (r : TrainState). r.is_out) (changed t lt ∙ ap (λ v. state_after plant v t (state_of state.trains t)) now) ∙ out_now_state plant t (state_of state.trains t)
        ∙ sym (out_now line front t (ap (is_out_line t) now ∙ eq-eqb t t refl)))
        (λ other. ap (λ (r : TrainState). r.is_out) (changed t lt) ∙ out_same plant t (state_of state.trains t) w other ∙ rep.waiting.out t lt ∙ sym (out_kept line front t other))
        (out_view t w);
  }

  -- what is deferred stays so
  pub still_held : (state.is_settled ≡ true) ⊎ (at ≡ state.instant) → (t arrival : ℕ) → t < trains plant → (state_of state.trains t).deferred ≡ Some arrival → IsDeferred plant t at (state_of after t) arrival
  still_held goes t arrival lt held =
      let back = rep.pending.deferred t arrival lt held in
      let times = same_times t lt in
      let unready : (state_of state.trains t).waits ≡ false → ((state_of after t).waits ≡ false) ⊎ (((state_of after t).times.next_ready ≡ at) × ((state_of after t).last_hold ≡ None)) =
      λ waits. ⊎_elim
      (λ now. inr (ap (λ ts. ts.next_ready) times ∙ (ready_now t now.0 lt now.1).0, same_told t lt ∙ (ready_now t now.0 lt now.1).1))
      (λ other. inl (waits_same t lt other ∙ waits))
      (ready_view t w) in
      record {
        begun = omega (arith, back.begun, same_place t lt);
        left = omega (arith, back.left, same_place t lt);
        unforced = ap (is_forced plant t) (same_place t lt) ∙ back.unforced;
        stops = back.stops ∙ sym (ap (λ ts. stop_time plant t ts.free_run) times);
        early = subst (λ n. n < arrival) (sym (ap (λ ts. ts.next_ready) times)) back.early;
        still =
            ⊎_elim unready
            (λ now. ⊎_elim
            (λ settled. ⊎_elim
            (λ waits. let told = rep.settled settled t lt waits in absurd (none-some told.why (sym now.1 ∙ told.told)))
            unready
            (cases_Bool (state_of state.trains t).waits))
            (λ same. inr (ap (λ ts. ts.next_ready) times ∙ now.0 ∙ sym rep.time ∙ sym same, same_told t lt ∙ now.1))
            goes)
            back.still;
      }

  -- where none is deferred it is so still
  pub still_bound : (t : ℕ) → t < trains plant → (state_of after t).deferred ≡ None → 0 < (state_of after t).place → (state_of after t).place < moves plant t → IsBound plant t (state_of after t)
  still_bound t lt none some left =
      ⊎_elim
      (λ forced. inl (ap (is_forced plant t) (same_place t lt) ∙ forced))
      (λ held. inr (ap is_some (same_told t lt) ∙ held))
      (rep.pending.bound t lt (sym (same_arrival t lt) ∙ none) (omega (arith, some, same_place t lt)) (omega (arith, left, same_place t lt)))

  -- the heads: that of a train whose enter line this is goes on
  pub heads_after : ((t : ℕ) → (one : EntersOne t w) → t < trains plant
      → ((state_of state.trains t).head.place - 1 < place front t)
      × (line.entry ≡ enter_line plant t (admissions front t) ((state_of state.trains t).head.place - 1) ((state_of state.trains t).head.step - 1))) → AreHeads plant (line
      ∷ front) after
  heads_after entering = record {
    place_counts = λ t lt.
        ⊎_elim
        (λ one. subst (λ h. 0 < h.place) (sym (here t lt one)) (head_counts plant t (state_of state.trains t).head (rep.heads.place_counts t lt)).0)
        (λ other. subst (λ h. 0 < h.place) (sym (there t lt other)) (rep.heads.place_counts t lt))
        (enter_view t w);
    step_counts = λ t lt.
        ⊎_elim
        (λ one. subst (λ h. 0 < h.step) (sym (here t lt one)) (head_counts plant t (state_of state.trains t).head (rep.heads.place_counts t lt)).1)
        (λ other. subst (λ h. 0 < h.step) (sym (there t lt other)) (rep.heads.step_counts t lt))
        (enter_view t w);
    heads = λ t lt.
        ⊎_elim
        (λ one.
        let head = (state_of state.trains t).head in
        let facts = entering t one lt in
        let goes_on = head_goes_on plant t head (rep.heads.place_counts t lt) (rep.heads.step_counts t lt) in
        let entered = head_enters (input_of dispatch plant) fine line front lawful t (head.place - 1) (head.step - 1) facts.0 facts.1 (rep.heads.heads t lt) in
        subst (λ h. IsHead plant (line ∷ front) t (h.place - 1) (h.step - 1)) (sym (here t lt one))
        (subst (λ i. IsHead plant (line ∷ front) t ((head_behind plant t head).place - 1) i) (sym goes_on.1)
        (subst (λ n. IsHead plant (line ∷ front) t n (next_step plant t (head.place - 1) (head.step - 1))) (sym goes_on.0) entered)))
        (λ other. subst (λ h. IsHead plant (line ∷ front) t (h.place - 1) (h.step - 1)) (sym (there t lt other)) (head_kept (input_of dispatch plant) fine line front lawful t ((state_of state.trains t).head.place - 1) ((state_of state.trains t).head.step - 1) other (rep.heads.heads t lt)))
        (enter_view t w);
  }
    where
      here : (t : ℕ) → t < trains plant → EntersOne t w → (state_of after t).head ≡ head_behind plant t (state_of state.trains t).head
      here t lt one = ap (λ (r : TrainState). r.head) (changed t lt ∙ ap (λ v. state_after plant v t (state_of state.trains t)) one.same) ∙ head_next plant t (state_of state.trains t) one.move one.section

      there : (t : ℕ) → t < trains plant → enters t w ≡ false → (state_of after t).head ≡ (state_of state.trains t).head
      there t lt other = ap (λ (r : TrainState). r.head) (changed t lt) ∙ head_same plant t (state_of state.trains t) w other

  -- the holders, of whom one frees a section by a free line
  pub holders_hold : AreHolders plant (line ∷ front) (holders_after w state.holders)
  holders_hold =
      ⊎_elim
      (λ one. subst (λ v. AreHolders plant (line ∷ front) (holders_after v state.holders)) (sym one.same) (holder_frees (input_of dispatch plant) rep.accepted line front lawful one.section one.train one.same state.holders rep.holders).1)
      (λ other. subst (AreHolders plant (line ∷ front)) (sym (unfreed w other)) (holders_kept (input_of dispatch plant) rep.accepted line front lawful idle other state.holders rep.holders))
      (free_view w)
    where
      unfreed : (v : What) → ((x t : ℕ) → v ≡ Free x t → ⊥) → holders_after v state.holders ≡ state.holders
      unfreed (Free x t) other = absurd (other x t refl)
      unfreed (Arrive t m) other = refl
      unfreed (Enter t m x) other = refl
      unfreed (Out t) other = refl
      unfreed (Ready t m) other = refl
      unfreed (Told k) other = refl
      unfreed (Untold k) other = refl
      unfreed (Admit t m note) other = refl
      unfreed (Hold t m why) other = refl
      unfreed End other = refl

  -- causes that are known still hold
  pub known_after : AreKnown dispatch plant (line ∷ front) (holders_after w state.holders) after
  known_after = record {
    cause = λ t why lt is.
        seen t (holders_after w state.holders) ∙
        ⊎_elim
        (λ one. let was = known_before t why lt one is in
        ap (λ v. seen_cause (input_of dispatch plant) front (holders_after v state.holders) t) one.same
        ∙ seen_unfreed state.holders one.section t (own_overlap plant t (place front t)) (claimed plant t (place front t)) (stop_cause t (told dispatch.commands front)) (closed_cause (claimed plant t (place front t)) (told dispatch.commands front)) (list_cause (input_of dispatch plant) front t) why (rep.known.cause t why lt was.0) was.1)
        (λ other. ap (λ h. seen_cause (input_of dispatch plant) front h t) (unfreed w other)
        ∙ rep.known.cause t why lt (sym (known_same t lt other) ∙ is))
        (free_view w);
    waits = λ t why lt is. waits_on t lt
        (⊎_elim
        (λ one. rep.known.waits t why lt (known_before t why lt one is).0)
        (λ other. rep.known.waits t why lt (sym (known_same t lt other) ∙ is))
        (free_view w));
    at_first_section = λ t why lt is. at_first_kept plant state.trains after t why lt rep.known.at_first_section
        (⊎_elim
        (λ one. (known_before t why lt one is).0)
        (λ other. sym (known_same t lt other) ∙ is)
        (free_view w))
        (same_place t lt) (same_first t lt);
    no_more = λ held t lt waits. absurd (false≢true (sym (event_no_hold w kind) ∙ held));
  }
    where
      unfreed : (v : What) → ((x t : ℕ) → v ≡ Free x t → ⊥) → holders_after v state.holders ≡ state.holders
      unfreed (Free x t) other = absurd (other x t refl)
      unfreed (Arrive t m) other = refl
      unfreed (Enter t m x) other = refl
      unfreed (Out t) other = refl
      unfreed (Ready t m) other = refl
      unfreed (Told k) other = refl
      unfreed (Untold k) other = refl
      unfreed (Admit t m note) other = refl
      unfreed (Hold t m why) other = refl
      unfreed End other = refl

      known_same : (t : ℕ) → t < trains plant → ((x u : ℕ) → w ≡ Free x u → ⊥) → (state_of after t).known ≡ (state_of state.trains t).known
      known_same t lt other = ap (λ (r : TrainState). r.known) (changed t lt) ∙ known_kept plant t (state_of state.trains t) w other

      known_before : (t : ℕ) (why : Cause) → t < trains plant → (one : FreesOne w) → (state_of after t).known ≡ Some why → ((state_of state.trains t).known ≡ Some why) × (is_blocked_at one.section (Some why) ≡ false)
      known_before t why lt one is = kept_cause one.section (state_of state.trains t).known why (sym (ap (λ (r : TrainState). r.known) (changed t lt ∙ ap (λ v. state_after plant v t (state_of state.trains t)) one.same)) ∙ is)

      seen : (t : ℕ) (h : List (Option ℕ)) → seen_cause (input_of dispatch plant) (line ∷ front) h t ≡ seen_cause (input_of dispatch plant) front h t
      seen t h = seen_kept dispatch plant line front h t idle (train_event_no_command w kind)

  -- who was told why stays told
  pub told_after : HaveHoldLines plant state.trains → StaysSettled plant state.trains w → HaveHoldLines plant after
  told_after told stays = λ t lt waits.
      let before : (state_of state.trains t).waits ≡ true = sym (waits_same t lt (no_ready w stays t)) ∙ waits in
      let was = told t lt before in
      record {
        why = was.why;
        known = ap (λ (r : TrainState). r.known) (changed t lt) ∙ stays_known w stays t lt ∙ was.known;
        told = same_told t lt ∙ was.told;
      }
    where
      no_ready : (v : What) → StaysSettled plant state.trains v → (t m : ℕ) → v ≡ Ready t m → ⊥
      no_ready (Ready u n) stays' t m is = stays'
      no_ready (Free x u) stays' t m is = not_free (sym is)
        where
          not_free : Ready t m ≡ Free x u → ⊥
          not_free e = false≢true (ap is_free_line (e))
      no_ready (Arrive u n) stays' t m is = false≢true (ap is_ready_line is)
      no_ready (Enter u n x) stays' t m is = false≢true (ap is_ready_line is)
      no_ready (Out u) stays' t m is = false≢true (ap is_ready_line is)
      no_ready (Told k) stays' t m is = false≢true (ap is_ready_line is)
      no_ready (Untold k) stays' t m is = false≢true (ap is_ready_line is)
      no_ready (Admit u n note) stays' t m is = false≢true (ap is_ready_line is)
      no_ready (Hold u n why) stays' t m is = false≢true (ap is_ready_line is)
      no_ready End stays' t m is = false≢true (ap is_ready_line is)

      stays_known : (v : What) → StaysSettled plant state.trains v → (t : ℕ) → t < trains plant → (state_after plant v t (state_of state.trains t)).known ≡ (state_of state.trains t).known
      stays_known (Free x u) stays' t lt = cond-false (is_blocked_at x (state_of state.trains t).known) None (state_of state.trains t).known (stays' t lt)
      stays_known (Arrive u n) stays' t lt = known_kept plant t (state_of state.trains t) (Arrive u n) (λ x s is. false≢true (ap is_free_line is))
      stays_known (Enter u n x) stays' t lt = known_kept plant t (state_of state.trains t) (Enter u n x) (λ x' s is. false≢true (ap is_free_line is))
      stays_known (Out u) stays' t lt = known_kept plant t (state_of state.trains t) (Out u) (λ x s is. false≢true (ap is_free_line is))
      stays_known (Ready u n) stays' t lt = absurd stays'
      stays_known (Told k) stays' t lt = refl
      stays_known (Untold k) stays' t lt = refl
      stays_known (Admit u n note) stays' t lt = refl
      stays_known (Hold u n why) stays' t lt = refl
      stays_known End stays' t lt = refl
