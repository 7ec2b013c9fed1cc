-- Where no pending event has the instant, nothing is due there.
use Rattle.std.proofs.Common.{◌+◌, ◌≡◌, ℕ, suc, ◌<◌, ◌≤◌, Bool, true, false, not, ◌&&◌, ◌||◌, eqb, List, [], ◌∷◌, Some, refl, sym, ap, ◌∙◌, subst, ⊎_elim, arith}
use Rattle.std.specs.Prelude.{count_by, nat_lt}
use Rattle.std.specs.List.{list_any}
use Rattle.std.proofs.lemmas.Bool.{and_parts, cases_Bool, cases_lt, eqb-true, false_from_ne_true, false≢true, le-ltb, ltb-true, ne_eqb, not-true, not_from_false, or_cases, or_from, or_left}
use Rattle.rail_base.specs.declared.history.Entry.{Entry}
use Rattle.rail_rules.specs.Plant.{Plant, moves, trains}
use Rattle.rail_rules.specs.Fronts.{Front, admissions, has_ended, instant}
use Rattle.rail_rules.specs.Orders.{is_cancelled, told, Dispatch, input_of}
use Rattle.rail_rules.specs.Events.{command_line, due_lines, is_quiet, is_written, ready_line}
use Rattle.rail_rules.specs.Causes.{is_deciding, place}
use Rattle.rail_laws_front.specs.EventLines.IsEvent.{readying}
use Rattle.rail_laws_front.proofs.CallerLemmas.{timely, IsCommandDue, IsEventDue, due_found}
use Rattle.rail_laws_events.proofs.CallerLemmas.{tally-same, tally-some}
use Rattle.rail_queue.specs.declared.event.Event.{Event}
use Rattle.rail_queue.specs.Order.{class_number, first_time_of, goes_before, is_sorted}
use Rattle.rail_state.specs.Events.{deferred_of, event_of}
use Rattle.rail_state.specs.TrainStates.{state_of}
use Rattle.rail_state.specs.Representation.{Represents, deferred_events}
use Rattle.rail_state.proofs.Below.{well_formed_plant}
use Rattle.rail_state.proofs.EventCodes.{one_event, same_event, same_event-self}
use Rattle.rail_state.proofs.LineCodes.{before_by_time, event_time}
use Rattle.rail_state.proofs.Counts.{count-gather_zero, count-le, count-none}
use Rattle.rail_state.proofs.FreeEvents.{deferred_none}
use Rattle.rail_state.proofs.Next.{due_some, held_no_ready, ready_later, ready_to_come, runs_inside, some_due}
use Rattle.rail_state.proofs.Settling.{deciding_when_quiet}
use Rattle.rail_state.specs.declared.run_state.RunState.{RunState}

-- no event goes before itself
not_before_itself : (e : Event) → goes_before e e ≡ false
not_before_itself e = of e.at (of (class_number e.class) (of e.number refl))
  where
    of : (n : ℕ) {b : Bool} → b ≡ false → (nat_lt n n || (eqb n n && b)) ≡ false
    of n {b} h = ap (λ c. c || (eqb n n && b)) (le-ltb n n (omega arith)) ∙ ap (λ c. eqb n n && c) h ∙ Rattle.std.proofs.lemmas.Bool.and_right (eqb n n) false refl

-- the first of sorted events is least
pub first_least : (event : Event) (rest : List Event) → is_sorted (event ∷ rest) ≡ true → list_any (λ other. goes_before other event) (event ∷ rest) ≡ false
first_least event rest sorted =
    ap (λ b. b || list_any (λ other. goes_before other event) rest) (not_before_itself event)
    ∙ not-true (list_any (λ other. goes_before other event) rest) (and_parts (not (list_any (λ later. goes_before later event) rest)) (is_sorted rest) sorted).0

module _ (dispatch : Dispatch) (plant : Plant) (front : Front) (state : RunState) (rep : Represents dispatch plant front state) (going : has_ended front ≡ false) (sorted : is_sorted state.queue.events ≡ true) (none_now : first_time_of state.queue.events ≡ Some state.instant → ⊥) where
  -- an event that is counted isn't in the past
  not_past : (event : Event) → list_any (λ d. same_event event (event_of d)) (due_lines (input_of dispatch plant) front) ≡ true → instant front ≤ event.at
  not_past event some = ⊎_elim of_train of_command (due_found (input_of dispatch plant) front (λ d. same_event event (event_of d)) some)
    where
      of_train : IsEventDue (input_of dispatch plant) front (λ d. same_event event (event_of d)) → instant front ≤ event.at
      of_train due =
          ⊎_elim
          (λ stood. absurd (false≢true (sym due.unwritten ∙ stood)))
          (λ still. omega (arith, still, ap (λ (e : Event). e.at) (one_event event (event_of due.entry) due.passing), event_time due.entry))
          ((timely (input_of dispatch plant) (well_formed_plant plant rep.accepted) front rep.lawful).events due.train due.entry due.known due.event)

      of_command : IsCommandDue (input_of dispatch plant) front (input_of dispatch plant).commands 0 (λ d. same_event event (event_of d)) → instant front ≤ event.at
      of_command due =
          let index : 0 + due.index ≡ due.index = omega arith in
          ⊎_elim
          (λ written. absurd (false≢true (sym due.unwritten ∙ ap (is_written front due.command) index ∙ written)))
          (λ still. omega (arith, still, ap (λ (e : Event). e.at) (one_event event (event_of (command_line (input_of dispatch plant) front due.command (0 + due.index))) due.passing), event_time (command_line (input_of dispatch plant) front due.command (0 + due.index))))
          ((timely (input_of dispatch plant) (well_formed_plant plant rep.accepted) front rep.lawful).commands due.index due.command due.listed)

  module _ (event : Event) (rest : List Event) (first : state.queue.events ≡ event ∷ rest) where
    least : list_any (λ other. goes_before other event) state.queue.events ≡ false
    least = ap (list_any (λ other. goes_before other event)) first ∙ first_least event rest (ap is_sorted (sym first) ∙ sorted)

    -- the first event is later than the instant
    first_later : instant front < event.at
    first_later =
        ⊎_elim
        (λ lt. lt)
        (λ ge. absurd (none_now (ap first_time_of first ∙ ap Some (omega (arith, ge, rep.time, not_past event (some_due dispatch plant front state rep event rest first least))))))
        (cases_lt (instant front) event.at)

    -- so each pending event is
    none_at_once : count_by (λ e. eqb e.at (instant front)) state.queue.events ≡ 0
    none_at_once =
        omega (
          arith,
          count-none (λ other. goes_before other event) state.queue.events least,
          count-le (λ e. eqb e.at (instant front)) (λ other. goes_before other event) state.queue.events (λ e here. before_by_time e event (omega (arith, first_later, eqb-true e.at (instant front) here))),
        )

    waits_later : (t at : ℕ) → t < trains plant → (state_of state.trains t).deferred ≡ Some at → instant front < at
    waits_later t at known held =
        let back = rep.pending.deferred t at known held in
        ⊎_elim
        (λ unready. omega (arith, back.early, first_later, ready_later dispatch plant front state rep event rest first least t known (runs_inside dispatch plant front state rep t (omega (arith, back.begun, rep.times.places t known))) (omega (arith, back.left, rep.times.places t known)) unready))
        (λ ready_now. omega (arith, back.early, ready_now.0))
        back.still

  -- with no event pending, no train inside waits to become ready
  none_unready : state.queue.events ≡ [] → (t : ℕ) → t < trains plant → is_cancelled t (told dispatch.commands front) ≡ false → place front t < moves plant t → (state_of state.trains t).waits ≡ false → ⊥
  none_unready empty t known runs left unready =
      let line : Entry = ready_line plant t (admissions front t) (place front t) in
      let some = due_some dispatch plant front (λ d. same_event (event_of line) (event_of d)) t line known (readying (place front t) (omega arith) left runs refl) (ready_to_come dispatch plant front t runs left (sym (rep.waiting.ready t known) ∙ unready)) (same_event-self (event_of line)) in
      omega (arith, some, rep.pending.counted (same_event (event_of line)), ap (count_by (same_event (event_of line))) empty, held_no_ready plant state.trains line.at t (suc (place front t)))

  -- an arrival that is deferred is later than the instant
  held_is_later : (t at : ℕ) → t < trains plant → (state_of state.trains t).deferred ≡ Some at → instant front < at
  held_is_later t at known held = of state.queue.events refl
    where
      of : (events : List Event) → state.queue.events ≡ events → instant front < at
      of (event ∷ rest) first = waits_later event rest first t at known held
      of [] empty =
          let back = rep.pending.deferred t at known held in
          ⊎_elim
          (λ unready. absurd (none_unready empty t known (runs_inside dispatch plant front state rep t (omega (arith, back.begun, rep.times.places t known))) (omega (arith, back.left, rep.times.places t known)) unready))
          (λ ready_now. omega (arith, back.early, ready_now.0))
          back.still

  events_later : count_by (λ e. eqb e.at (instant front)) state.queue.events ≡ 0
  events_later = of state.queue.events refl
    where
      of : (events : List Event) → state.queue.events ≡ events → count_by (λ e. eqb e.at (instant front)) state.queue.events ≡ 0
      of (event ∷ rest) first = none_at_once event rest first
      of [] empty = ap (count_by (λ e. eqb e.at (instant front))) empty

  held_none : count_by (λ e. eqb e.at (instant front)) (deferred_events plant state.trains) ≡ 0
  held_none = count-gather_zero (λ e. eqb e.at (instant front)) (λ u. deferred_of plant u (state_of state.trains u).place (state_of state.trains u).deferred) (trains plant)
      (λ u lt. count-none (λ e. eqb e.at (instant front)) (deferred_of plant u (state_of state.trains u).place (state_of state.trains u).deferred)
      (deferred_none (λ e. eqb e.at (instant front)) plant u (state_of state.trains u).place (state_of state.trains u).deferred
      (λ a held. (not_now a (held_is_later u a lt held), λ x. not_now (a + plant.tables.overlap_time) (omega (arith, held_is_later u a lt held))))))
    where
      not_now : (a : ℕ) → instant front < a → eqb a (instant front) ≡ false
      not_now a later = ne_eqb a (instant front) (λ e. omega (arith, e, later))

  nothing_now : list_any (λ (d : Entry). eqb d.at (instant front)) (due_lines (input_of dispatch plant) front) ≡ false
  nothing_now = false_from_ne_true (list_any (λ (d : Entry). eqb d.at (instant front)) (due_lines (input_of dispatch plant) front)) (λ some.
      omega (
        arith,
        tally-some (λ d. eqb d.at (instant front)) (due_lines (input_of dispatch plant) front) some,
        tally-same (λ d. eqb d.at (instant front)) (λ d. eqb (event_of d).at (instant front)) (due_lines (input_of dispatch plant) front) (λ d. ap (λ n. eqb n (instant front)) (sym (event_time d))),
        rep.pending.counted (λ e. eqb e.at (instant front)),
        events_later,
        held_none,
      ))

  -- then it is decided who goes
  pub deciding : (front ≡ [] → ⊥) → is_deciding (input_of dispatch plant) front ≡ true
  deciding some = of front refl
    where
      quiet : is_quiet (due_lines (input_of dispatch plant) front) (instant front) ≡ true
      quiet = not_from_false (list_any (λ (d : Entry). eqb d.at (instant front)) (due_lines (input_of dispatch plant) front)) nothing_now

      of : (f : Front) → f ≡ front → is_deciding (input_of dispatch plant) front ≡ true
      of [] same = absurd (some (sym same))
      of (line ∷ before) same =
          subst (λ g. is_deciding (input_of dispatch plant) g ≡ true) same
          (deciding_when_quiet dispatch plant line before (ap has_ended same ∙ going) (subst (λ g. is_quiet (due_lines (input_of dispatch plant) g) (instant g) ≡ true) (sym same) quiet))
