-- The first pending event is the least line to come.
use Rattle.std.proofs.Common.{◌≡◌, ℕ, zero, suc, ◌+◌, ◌<◌, ◌≤◌, Bool, true, false, not, ◌&&◌, cond, eqb, List, [], ◌∷◌, Some, refl, sym, ap, ◌∙◌, subst, ◌⊎◌, ⊎_elim, arith}
use Rattle.std.specs.Prelude.{count_by, nat_lt}
use Rattle.std.specs.List.{list_any}
use Rattle.std.proofs.lemmas.Bool.{eqb-true, false_from_ne_true, not_from_false, and_from, and_right, or_left, cases_Bool, cond-true, lt-ltb, ltb-false, false≢true}
use Rattle.std.proofs.lemmas.Option.{none-some}
use Rattle.rail_base.specs.declared.history.Entry.{Entry}
use Rattle.rail_base.specs.declared.history.What.TheVariants.{Told, Untold}
use Rattle.rail_rules.specs.Numbers.{comes_before}
use Rattle.rail_rules.specs.Plant.{Plant, trains, moves}
use Rattle.rail_rules.specs.Times.{ready}
use Rattle.rail_rules.specs.Fronts.{Front, admissions, rank, same_entry, stands}
use Rattle.rail_rules.specs.Orders.{is_cancelled, takes_effect, told, Dispatch, input_of}
use Rattle.rail_rules.specs.Events.{command_line, due_lines, is_least, is_quiet, ready_line}
use Rattle.rail_rules.specs.Causes.{is_ready, place}
use Rattle.rail_laws_front.specs.EventLines.{IsEvent}
use Rattle.rail_laws_front.specs.EventLines.IsEvent.{readying}
use Rattle.rail_laws_front.proofs.CallerLemmas.{IsEventDue, due_found, due_from_event, running_event, same_entry_refl}
use Rattle.rail_laws_events.proofs.CallerLemmas.{some-tally, tally-le, tally-some, event_is_train}
use Rattle.rail_laws_events.proofs.CallerLemmas.{cancelled_never_goes}
use Rattle.rail_state.proofs.Least.{due_agree}
use Rattle.rail_state.proofs.EventCodes.{is_due_kind, key_is_rank, one_event, same_event, same_event-self}
use Rattle.rail_laws_events.specs.Accounts.{tally}
use Rattle.rail_block.specs.CarriedTimes.{times_at}
use Rattle.rail_queue.specs.declared.event.Event.{Event}
use Rattle.rail_queue.specs.declared.event.Class.TheVariants as class
use Rattle.rail_queue.specs.Order.{class_number, goes_before, key}
use Rattle.rail_state.specs.Events.{deferred_of, event_of, train_event}
use Rattle.rail_state.specs.declared.train.TrainState.{TrainState}
use Rattle.rail_state.specs.TrainStates.{state_of}
use Rattle.rail_state.specs.Representation.{Represents, deferred_events}
use Rattle.rail_laws_step.specs.LinesToCome.{ToCome}
use Rattle.rail_state.proofs.LineCodes.{before_by_time, event_time}
use Rattle.rail_laws_events.specs.Accounts.{is_train_event}
use Rattle.rail_rules.specs.LineCounts.{is_command}
use Rattle.rail_state.proofs.Counts.{count-cons, count-gather_zero, count-le, count-none}
use Rattle.rail_state.proofs.FreeEvents.{deferred_behind, deferred_none}
use Rattle.rail_state.specs.declared.run_state.RunState.{RunState}

-- when the next move is ready, by the times that are carried
pub carried_ready : (plant : Plant) (t : ℕ) (adms : List ℕ) (p : ℕ) → p < moves plant t → (times_at plant t adms p).next_ready ≡ ready plant t adms p
carried_ready plant t adms zero lt = refl
carried_ready plant t adms (suc m) lt = cond-true {A = ℕ} (nat_lt (suc m) (moves plant t)) (ready plant t adms (suc m)) _ (lt-ltb (suc m) (moves plant t) lt)

-- a train that isn't ready has its ready line to come
pub ready_to_come : (dispatch : Dispatch) (plant : Plant) (front : Front) (t : ℕ) → is_cancelled t (told dispatch.commands front) ≡ false → place front t < moves plant t
    → is_ready (input_of dispatch plant) front t ≡ false → stands front (ready_line plant t (admissions front t) (place front t)) ≡ false
ready_to_come dispatch plant front t runs lt h =
    ⊎_elim
    (λ stood. absurd (false≢true (sym h ∙ and_from (nat_lt (place front t) (moves plant t) && not (is_cancelled t (told dispatch.commands front))) (stands front (ready_line plant t (admissions front t) (place front t)))
    (and_from (nat_lt (place front t) (moves plant t)) (not (is_cancelled t (told dispatch.commands front))) (lt-ltb (place front t) (moves plant t) lt) (not_from_false (is_cancelled t (told dispatch.commands front)) runs)) stood)))
    (λ fresh. fresh)
    (cases_Bool (stands front (ready_line plant t (admissions front t) (place front t))))

-- no arrival that is deferred is a ready event
pub held_no_ready : (plant : Plant) (states : List TrainState) (at t m : ℕ) → count_by (same_event (train_event at class.Ready t m)) (deferred_events plant states) ≡ 0
held_no_ready plant states at t m = count-gather_zero (same_event (train_event at class.Ready t m)) (λ u. deferred_of plant u (state_of states u).place (state_of states u).deferred) (trains plant)
    (λ u lt. count-none (same_event (train_event at class.Ready t m)) (deferred_of plant u (state_of states u).place (state_of states u).deferred)
    (deferred_none (same_event (train_event at class.Ready t m)) plant u (state_of states u).place (state_of states u).deferred (λ a is. (and_right (eqb at a) false refl, λ x. and_right (eqb at (a + plant.tables.overlap_time)) false refl))))

not_before : (a b : ℕ) (xs ys : List ℕ) → comes_before (a ∷ xs) (b ∷ ys) ≡ false → b ≤ a
not_before a b xs ys h =
    ⊎_elim
    (λ less. absurd (false≢true (sym h ∙ or_left (nat_lt a b) _ less)))
    (λ not_less. ltb-false a b not_less)
    (cases_Bool (nat_lt a b))

-- a due event line is counted
pub due_some : (dispatch : Dispatch) (plant : Plant) (front : Front) (p : Entry → Bool) (t : ℕ) (e : Entry) → t < trains plant
    → IsEvent plant t (admissions front t) (is_cancelled t (told dispatch.commands front)) e → stands front e ≡ false → p e ≡ true
    → 0 < tally p (due_lines (input_of dispatch plant) front)
due_some dispatch plant front p t e known event fresh passes = tally-some p (due_lines (input_of dispatch plant) front) (due_from_event (input_of dispatch plant) front p t e known event fresh passes)

-- a train inside isn't cancelled
pub runs_inside : (dispatch : Dispatch) (plant : Plant) (front : Front) (state : RunState) → Represents dispatch plant front state → (t : ℕ) → 0 < place front t → is_cancelled t (told dispatch.commands front) ≡ false
runs_inside dispatch plant front state rep t inside =
    ⊎_elim
    (λ cancelled. absurd (omega (arith, inside, cancelled_never_goes (input_of dispatch plant) front rep.lawful t cancelled)))
    (λ runs. runs)
    (cases_Bool (is_cancelled t (told dispatch.commands front)))

module _ (dispatch : Dispatch) (plant : Plant) (front : Front) (state : RunState) (rep : Represents dispatch plant front state) (event : Event) (rest : List Event) (first : state.queue.events ≡ event ∷ rest) (least : list_any (λ other. goes_before other event) state.queue.events ≡ false) where
  states : List TrainState
  states = state.trains

  none_before : count_by (λ other. goes_before other event) state.queue.events ≡ 0
  none_before = count-none (λ other. goes_before other event) state.queue.events least

  -- the first event is a due line
  pub some_due : list_any (λ d. same_event event (event_of d)) (due_lines (input_of dispatch plant) front) ≡ true
  some_due = some-tally (λ d. same_event event (event_of d)) (due_lines (input_of dispatch plant) front)
      (omega (
        arith,
        rep.pending.counted (same_event event),
        ap (λ list. count_by (same_event event) list) first,
        count-cons (same_event event) event rest,
        cond-true {A = ℕ} (same_event event event) 1 0 (same_event-self event),
      ))

  -- an event that is pending isn't before the first one
  pub pending_later : (other : Event) → 0 < count_by (same_event other) state.queue.events → goes_before other event ≡ false
  pending_later other some =
      ⊎_elim
      (λ before. absurd (omega (
        arith,
        some,
        none_before,
        count-le (same_event other) (λ e. goes_before e event) state.queue.events (λ e same. subst (λ x. goes_before x event ≡ true) (one_event other e same) before),
      )))
      (λ no. no)
      (cases_Bool (goes_before other event))

  -- the first event isn't later than the ready time of a train that isn't ready
  pub ready_later : (t : ℕ) → t < trains plant → is_cancelled t (told dispatch.commands front) ≡ false → place front t < moves plant t → (state_of state.trains t).waits ≡ false → event.at ≤ (state_of state.trains t).times.next_ready
  ready_later t known runs left waits =
      let p : ℕ = place front t in
      let line : Entry = ready_line plant t (admissions front t) p in
      let fresh = ready_to_come dispatch plant front t runs left (sym (rep.waiting.ready t known) ∙ waits) in
      let some = due_some dispatch plant front (λ d. same_event (event_of line) (event_of d)) t line known (readying p (omega arith) left runs refl) fresh (same_event-self (event_of line)) in
      let later = pending_later (event_of line) (omega (arith, some, rep.pending.counted (same_event (event_of line)), held_no_ready plant state.trains line.at t (suc p))) in
      let same : (state_of state.trains t).times.next_ready ≡ line.at = ap (λ times. times.next_ready) (rep.times.times t known) ∙ carried_ready plant t (admissions front t) p left in
      omega (arith, same, not_before line.at event.at (4 ∷ t ∷ []) (class_number event.class ∷ event.number ∷ []) later)

  -- an arrival that is deferred is later than the first event, where this has the instant or all were told why they wait
  pub held_later : (state.is_settled ≡ true) ⊎ (event.at ≡ state.instant) → (t at : ℕ) → t < trains plant → (state_of state.trains t).deferred ≡ Some at → event.at < at
  held_later goes t at known held =
      let back = rep.pending.deferred t at known held in
      let left : place front t < moves plant t = omega (arith, back.left, rep.times.places t known) in
      let unready : (state_of state.trains t).waits ≡ false → event.at < at = λ waits. omega (arith, back.early, ready_later t known (runs_inside dispatch plant front state rep t (omega (arith, back.begun, rep.times.places t known))) left waits) in
      ⊎_elim unready
      (λ ready_now. ⊎_elim
      (λ settled. ⊎_elim
      (λ waits. let told = rep.settled settled t known waits in absurd (none-some told.why (sym ready_now.1 ∙ told.told)))
      unready
      (cases_Bool (state_of state.trains t).waits))
      (λ same. omega (arith, same, rep.time, ready_now.0, back.early))
      goes)
      back.still

  -- no due line is before the first event
  pub none_due_before : (state.is_settled ≡ true) ⊎ (event.at ≡ state.instant) → tally (λ d. goes_before (event_of d) event) (due_lines (input_of dispatch plant) front) ≡ 0
  none_due_before goes =
      omega (
        arith,
        rep.pending.counted (λ other. goes_before other event),
        none_before,
        count-gather_zero (λ other. goes_before other event) (λ u. deferred_of plant u (state_of state.trains u).place (state_of state.trains u).deferred) (trains plant)
            (λ u lt. count-none (λ other. goes_before other event) (deferred_of plant u (state_of state.trains u).place (state_of state.trains u).deferred) (deferred_behind plant event u (state_of state.trains u).place (state_of state.trains u).deferred (λ a held. held_later goes u a lt held))),
      )

  -- nothing is due at an instant before the first event
  pub quiet_earlier : (state.is_settled ≡ true) ⊎ (event.at ≡ state.instant) → (i : ℕ) → i < event.at → is_quiet (due_lines (input_of dispatch plant) front) i ≡ true
  quiet_earlier goes i lt =
      let there : Entry → Bool = λ d. eqb d.at i in
      not_from_false (list_any there (due_lines (input_of dispatch plant) front)) (false_from_ne_true (list_any there (due_lines (input_of dispatch plant) front)) (λ some.
      omega (
        arith,
        none_due_before goes,
        tally-some there (due_lines (input_of dispatch plant) front) some,
        tally-le there (λ d. goes_before (event_of d) event) (due_lines (input_of dispatch plant) front) (λ d h. before_by_time (event_of d) event (omega (arith, lt, event_time d, eqb-true d.at i h))),
      )))

  -- of an event of a train
  module _ (of_train : event.class ≡ class.Command → ⊥) where
    pub found_due : IsEventDue (input_of dispatch plant) front (λ d. same_event event (event_of d))
    found_due =
        ⊎_elim
        (λ due. due)
        (λ due. absurd (of_train (ap (λ (e : Event). e.class) (one_event event (event_of (command_line (input_of dispatch plant) front due.command (0 + due.index))) due.passing)
        ∙ command_class (takes_effect (input_of dispatch plant) front (told dispatch.commands front) due.command.what) due.command.at (suc (0 + due.index)))))
        (due_found (input_of dispatch plant) front (λ d. same_event event (event_of d)) some_due)
      where
        command_class : (b : Bool) (at n : ℕ) → (event_of (record { at = at; what = cond b (Told n) (Untold n) })).class ≡ class.Command
        command_class true at n = refl
        command_class false at n = refl

    -- the first event is a line to come
    pub found : ToCome plant front (λ d. same_event event (event_of d))
    found = record {
      train = found_due.train;
      entry = found_due.entry;
      known = found_due.known;
      event = running_event plant found_due.train (admissions front found_due.train) (is_cancelled found_due.train (told dispatch.commands front)) false found_due.entry (λ _. refl) found_due.event;
      fresh = found_due.unwritten;
      passes = found_due.passing;
    }

    -- its line is the least due line
    pub least_line : (state.is_settled ≡ true) ⊎ (event.at ≡ state.instant) → is_least (due_lines (input_of dispatch plant) front) found.entry ≡ true
    unfolding found_due found
    least_line goes =
        let entry : Entry = found_due.entry in
        let same : event ≡ event_of entry = one_event event (event_of entry) found_due.passing in
        let earlier : Entry → Bool = λ d. comes_before (rank d) (rank entry) in
        let is_train : is_train_event entry.what ≡ true = event_is_train plant found_due.train (admissions front found_due.train) (is_cancelled found_due.train (told dispatch.commands front)) entry found_due.event in
        let due_kind : is_due_kind entry.what ≡ true = or_left (is_train_event entry.what) (is_command entry.what) is_train in
        let agree : (d : Entry) → is_due_kind d.what ≡ true → comes_before (rank d) (rank entry) ≡ goes_before (event_of d) event =
        λ d h. ap (λ k. comes_before k (rank entry)) (sym (key_is_rank d h)) ∙ ap (comes_before (key (event_of d))) (sym (key_is_rank entry due_kind) ∙ ap key (sym same)) in
        and_from (list_any (same_entry entry) (due_lines (input_of dispatch plant) front)) (not (list_any earlier (due_lines (input_of dispatch plant) front)))
        (due_from_event (input_of dispatch plant) front (same_entry entry) found_due.train entry found_due.known found_due.event found_due.unwritten (same_entry_refl entry))
        (not_from_false (list_any earlier (due_lines (input_of dispatch plant) front)) (false_from_ne_true (list_any earlier (due_lines (input_of dispatch plant) front)) (λ any.
        omega (arith, due_agree (input_of dispatch plant) front earlier (λ d. goes_before (event_of d) event) agree, none_due_before goes, tally-some earlier (due_lines (input_of dispatch plant) front) any))))
