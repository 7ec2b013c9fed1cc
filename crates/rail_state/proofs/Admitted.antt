-- An admission: what it changes.
use Rattle.std.proofs.Common.{◌≡◌, ℕ, zero, suc, ◌+◌, ◌-◌, ◌<◌, ◌≤◌, max, Bool, true, false, not, ◌&&◌, cond, ◌||◌, eqb, List, [], ◌∷◌, ◌++◌, get_or, length, Option, Some, None, is_some, refl, sym, ap, ◌∙◌, subst, ◌⊎◌, inl, ⊎_elim, arith}
use Rattle.std.specs.Prelude.{count_by, nat_lt}
use Rattle.std.specs.List.{filter}
use Rattle.std.proofs.lemmas.Bool.{and_parts, and_from, and_right, cases_Bool, eqb-true, eq-eqb, ne_eqb, lt-ltb, false≢true, cond-true, cond-false, not_from_false, not-true}
use Rattle.std.proofs.lemmas.Option.{none-some}
use Rattle.rail_base.specs.declared.history.Entry.{Entry}
use Rattle.rail_base.specs.declared.history.Note.{Note}
use Rattle.rail_base.specs.declared.history.Cause.{Cause}
use Rattle.rail_rules.specs.Numbers.{gather, is_in, or_else}
use Rattle.rail_rules.specs.Accepted.{are_distinct_numbers}
use Rattle.rail_rules.proofs.CallerLemmas.{accepted_parts, move_in_range, row_in_range}
use Rattle.rail_base.specs.declared.history.What.TheVariants.{Free}
use Rattle.rail_rules.specs.Plant.{Plant, claimed, claims, is_forced, move_row, moves, moves_of, needed, overlap, step_section, steps, trains}
use Rattle.rail_rules.specs.Times.{admitted, arrive, does_pass, free_run, go, passes, previous, ready, signal_time, stop_at, stop_time}
use Rattle.rail_rules.specs.Fronts.{Front, Line, admissions, at_time, has_ended, instant, kept, places}
use Rattle.rail_rules.specs.Intervals.{end_of, freed_at, timer_end}
use Rattle.rail_rules.specs.Events.{arrive_line, enter_line, free_lines, move_events, out_lines}
use Rattle.rail_rules.specs.Causes.{closed_cause, is_deciding, is_ready, is_repairable, last_hold, list_cause, place, places_after, stop_cause}
use Rattle.rail_rules.specs.Orders.{told, Dispatch, input_of}
use Rattle.rail_laws_front.specs.Premises.{IsWellFormed}
use Rattle.rail_laws_front.specs.Views.{Admits}
use Rattle.rail_laws_front.proofs.CallerLemmas.{agree_added, admitted_added, free_run_agrees, is_added, length_added, ready_agrees, arrives_passing, arrives_stopping, go_after_admission, not_admitted, run_after_go, admission_added, admission_of_other}
use Rattle.rail_laws_events.specs.Accounts.{tally}
use Rattle.rail_laws_events.specs.Changes.{taken_back, freed_before, gained, overlap_frees, ready_after}
use Rattle.rail_laws_events.proofs.CallerLemmas.{tally-append}
use Rattle.rail_laws_step.specs.HolderTables.{AreHolders, bar_holder, held_cause, is_train, own_overlap}
use Rattle.rail_laws_step.specs.Heads.{IsHead}
use Rattle.rail_block.specs.declared.times.MoveTimes.{MoveTimes}
use Rattle.rail_block.specs.CarriedTimes.{times_at}
use Rattle.rail_queue.specs.declared.event.Event.{Event}
use Rattle.rail_queue.specs.declared.event.Class.TheVariants as class
use Rattle.rail_state.specs.Events.{deferred_event, deferred_frees, deferred_of, end_lines, event_of, free_events, is_free_of, step_lines, train_event}
use Rattle.rail_laws_step.proofs.CallerLemmas.{IsOwnStep, admission_due, no_later_hold, overlap_frees_after, own_step, passing_holds, unheld, unready_by_admission}
use Rattle.rail_state.specs.declared.train.TrainState.{TrainState}
use Rattle.rail_state.specs.TrainStates.{after_taking, outlasts_taking, state_of}
use Rattle.rail_state.specs.TrainStates.{admitted as admitted_state}
use Rattle.rail_state.specs.SeenCauses.{seen_bar, seen_cause}
use Rattle.rail_state.proofs.Outlasting.{StillHold, each_free, outlasting_known, seen_outlasting, taking_holds}
use Rattle.rail_state.proofs.OverlapLines.{arrival_before, frees_before, frees_parts, taken_back_parts}
use Rattle.rail_state.proofs.FirstSections.{at_first_kept}
use Rattle.rail_state.proofs.Seen.{tells_none}
use Rattle.rail_rules.specs.Analysis.{finds}
use Rattle.rail_state.specs.Representation.{IsAdmissible, IsAdmitLine, IsBound, IsDeferred, MayKeep, Represents, admit_line, deferred_events, forgotten, passing_event, passing_frees, taken_over}
use Rattle.rail_state.proofs.Below.{ready_runs, well_formed_plant, head_kept, holders_taken, out_kept}
use Rattle.rail_state.proofs.Admitting.{admits, lawful_line, left_of_ready, no_hold, ready_it, waits_it}
use Rattle.rail_state.proofs.Counts.{count-append, count-exchanged, count-parts}
use Rattle.rail_state.proofs.FreeEvents.{filter_distinct, filter_there, free_events_parts, free_of_each, last_frees, overlap_lines, passed_there}
use Rattle.rail_state.proofs.OwnOverlap.{one_pending}
use Rattle.rail_state.proofs.Next.{carried_ready}
use Rattle.rail_state.proofs.Early.{held_before_now}
use Rattle.rail_rules.specs.Events.{due_lines}
use Rattle.rail_state.specs.declared.run_state.RunState.{RunState}

-- where nothing bars, nothing holds
bar_free : (a b c : Option Cause) → or_else a (or_else b c) ≡ None → c ≡ None
bar_free None None c h = h
bar_free (Some x) b c h = absurd (none-some x (sym h))
bar_free None (Some x) c h = absurd (none-some x (sym h))

module _ (dispatch : Dispatch) (plant : Plant) (front : Front) (state : RunState) (rep : Represents dispatch plant front state) (going : has_ended front ≡ false)
    (deciding : is_deciding (input_of dispatch plant) front ≡ true) (t : ℕ) (next : IsAdmissible dispatch plant front state.holders state.trains t) (note : Note) (list : List ℕ)
    (noted : MayKeep (moves_of plant) (places plant front) (kept plant front) t note list) (times : MoveTimes) (arrival : Option ℕ) (after_it : RunState)
    (has : IsAdmitLine plant front t times arrival state after_it) where
  abbrev line : Line
  line = admit_line state.instant t (suc (place front t)) note list

  fine : IsWellFormed plant
  fine = well_formed_plant plant rep.accepted

  left : place front t < moves plant t
  left = left_of_ready dispatch plant front t (ready_it dispatch plant front state rep going deciding t next note list noted)

  added : admissions (line ∷ front) t ≡ admissions front t ++ state.instant ∷ []
  added = admission_added line front t (suc (place front t)) note refl

  others : (u : ℕ) → (u ≡ t → ⊥) → admissions (line ∷ front) u ≡ admissions front u
  others u other = admission_of_other line front t (suc (place front t)) note u refl other

  this_state : state_of after_it.trains t ≡ admitted_state times arrival (state_of state.trains t)
  this_state = has.trains t next.known_train ∙ cond-true (eqb t t) (admitted_state times arrival (state_of state.trains t)) _ (eq-eqb t t refl)

  other_state : (u : ℕ) → u < trains plant → (u ≡ t → ⊥) → state_of after_it.trains u ≡ after_taking plant after_it.holders u (state_of state.trains u)
  other_state u lt other = has.trains u lt ∙ cond-false (eqb t u) _ (after_taking plant after_it.holders u (state_of state.trains u)) (ne_eqb t u (λ e. other (sym e)))

  -- the times of the old and the new place
  old_times : (state_of state.trains t).times ≡ times_at plant t (admissions front t) (place front t)
  old_times = rep.times.times t next.known_train

  passes_is : times.passes ≡ passes plant t (admissions front t ++ state.instant ∷ []) (place front t)
  passes_is = ap (λ ts. ts.passes) has.are_times

  go_is : times.go ≡ go plant t (admissions front t ++ state.instant ∷ []) (place front t)
  go_is = ap (λ ts. ts.go) has.are_times

  -- the admission is at the ready time and the place isn't forced where the train passes, and else not both
  passes_means : passes plant t (admissions front t ++ state.instant ∷ []) (place front t) ≡ (not (is_forced plant t (place front t)) && eqb state.instant (ready plant t (admissions front t) (place front t)))
  passes_means =
      ap (λ b. b && does_pass plant t (place front t) (previous (admissions front t ++ state.instant ∷ []) (place front t))
      (free_run plant t (admissions front t ++ state.instant ∷ []) (place front t)) (admitted (admissions front t ++ state.instant ∷ []) (place front t))) (is_added
      (admissions front t) state.instant)
      ∙ ap (λ at. not (is_forced plant t (place front t)) && eqb at (ready plant t (admissions front t ++ state.instant ∷ []) (place front t))) (admitted_added (admissions front t) state.instant)
      ∙ ap (λ r. not (is_forced plant t (place front t)) && eqb state.instant r) (ready_agrees plant t (admissions front t ++ state.instant ∷ []) (admissions front t) (place front t) (place front t) (agree_added (admissions front t) state.instant) (omega arith))

  -- the needed sections of the move were free
  free_before : held_cause state.holders t (own_overlap plant t (place front t)) (claimed plant t (place front t)) ≡ None
  free_before = bar_free (stop_cause t (told dispatch.commands front)) (closed_cause (claimed plant t (place front t)) (told dispatch.commands front)) (held_cause state.holders t (own_overlap plant t (place front t)) (claimed plant t (place front t))) next.free

  -- so no holder of a section that it claims bars the train
  free_each : (x : ℕ) → is_in x (claimed plant t (place front t)) ≡ true → bar_holder state.holders t (own_overlap plant t (place front t)) x ≡ None
  free_each = each_free state.holders t (own_overlap plant t (place front t)) (claimed plant t (place front t)) free_before

  by_it : Admits (input_of dispatch plant) front line t (suc (place front t)) note
  by_it = admits dispatch plant front state rep going deciding t next note list noted

  -- the ends of the overlap before the move: what is taken out of the pending ones or was deferred, and what is pushed
  abbrev AreBalanced : (Event → Bool) → ℕ → Type 0
  AreBalanced q k = count_by (λ e. not (is_free_of (forgotten plant state.holders t k times) e) && q e) state.queue.events
      + count_by q (passing_frees plant t k times)
      + tally (λ e. q (event_of e)) (frees_before plant t (admissions front t) k)
      ≡ count_by q state.queue.events
      + tally (λ e. q (event_of e)) (frees_before plant t (admissions front t ++ state.instant ∷ []) k)
      + count_by q (deferred_frees plant t (state_of state.trains t).place (state_of state.trains t).deferred)

  -- at a place behind the entry
  module _ (m : ℕ) (here : place front t ≡ suc m) where
    abbrev is_now : Bool
    is_now = passes plant t (admissions front t ++ state.instant ∷ []) (suc m)

    more_moves : suc m ≡ moves plant t → ⊥
    more_moves e = omega (arith, e, left, here)

    place_is : (state_of state.trains t).place ≡ suc m
    place_is = rep.times.places t next.known_train ∙ here

    arrive_old : arrive plant t (admissions front t) m ≡ stop_at plant t (admissions front t) m
    arrive_old = arrives_stopping plant t (admissions front t) m more_moves
        (ap (λ b. b && does_pass plant t (suc m) (previous (admissions front t) (suc m)) (free_run plant t (admissions front t) (suc m))
        (admitted (admissions front t) (suc m))) (not_admitted (admissions front t) (suc m) (omega (arith, here))))

    means : is_now ≡ (not (is_forced plant t (suc m)) && eqb state.instant (ready plant t (admissions front t) (suc m)))
    means = subst (λ k. passes plant t (admissions front t ++ state.instant ∷ []) k ≡ (not (is_forced plant t k) && eqb state.instant (ready plant t (admissions front t) k))) here passes_means

    stop_old : stop_at plant t (admissions front t) m ≡ stop_time plant t (state_of state.trains t).times.free_run
    stop_old = sym (ap (λ ts. stop_time plant t ts.free_run) (old_times ∙ ap (times_at plant t (admissions front t)) here))

    ready_is : (state_of state.trains t).times.next_ready ≡ ready plant t (admissions front t) (suc m)
    ready_is = ap (λ ts. ts.next_ready) old_times ∙ carried_ready plant t (admissions front t) (place front t) left ∙ ap (ready plant t (admissions front t)) here

    -- where the train passes, its arrival by a stop was deferred till now
    deferred_passing : is_now ≡ true → (state_of state.trains t).deferred ≡ Some (arrive plant t (admissions front t) m)
    deferred_passing pass =
        let both = and_parts (not (is_forced plant t (suc m))) (eqb state.instant (ready plant t (admissions front t) (suc m))) (sym means ∙ pass) in
        held_now (state_of state.trains t).deferred refl (not-true (is_forced plant t (suc m)) both.0) (eqb-true state.instant (ready plant t (admissions front t) (suc m)) both.1)
      where
        held_now : (o : Option ℕ) → (state_of state.trains t).deferred ≡ o → is_forced plant t (suc m) ≡ false → state.instant ≡ ready plant t (admissions front t) (suc m)
            → (state_of state.trains t).deferred ≡ Some (arrive plant t (admissions front t) m)
        held_now (Some at) is unforced now_ready = is ∙ ap Some ((rep.pending.deferred t at next.known_train is).stops ∙ sym stop_old ∙ sym arrive_old)
        held_now None is unforced now_ready =
            ⊎_elim
            (λ forced. absurd (false≢true (sym unforced ∙ ap (is_forced plant t) (sym place_is) ∙ forced)))
            (λ held. told_before (state_of state.trains t).last_hold refl held)
            (rep.pending.bound t next.known_train is (omega (arith, place_is)) (omega (arith, place_is, left, here)))
          where
            told_before : (c : Option Cause) → (state_of state.trains t).last_hold ≡ c → is_some (state_of state.trains t).last_hold ≡ true
                → (state_of state.trains t).deferred ≡ Some (arrive plant t (admissions front t) m)
            told_before None told_is some = absurd (false≢true (sym (ap is_some told_is) ∙ some))
            told_before (Some w) told_is some =
                absurd (omega (
                  arith,
                  held_before_now (input_of dispatch plant) fine front rep.lawful going (no_hold dispatch plant front state rep going deciding t next note list noted) t w
                      (ready_runs (input_of dispatch plant) front t (ready_it dispatch plant front state rep going deciding t next note list noted))
                      (sym (rep.waiting.told t next.known_train) ∙ told_is),
                  now_ready,
                  rep.time,
                  ap (ready plant t (admissions front t)) here,
                ))

    -- where it doesn't, nothing of it is deferred
    deferred_stopping : is_now ≡ false → (state_of state.trains t).deferred ≡ None
    deferred_stopping pass = of (state_of state.trains t).deferred refl
      where
        none_held : (at : ℕ) → IsDeferred plant t (instant front) (state_of state.trains t) at → ⊥
        none_held at back =
            ⊎_elim
            (λ unready. false≢true (sym unready ∙ waits_it dispatch plant front state rep going deciding t next note list noted))
            (λ now_ready. false≢true (sym pass ∙ means ∙ and_from (not (is_forced plant t (suc m))) (eqb state.instant (ready plant t (admissions front t) (suc m)))
            (not_from_false (is_forced plant t (suc m)) (ap (is_forced plant t) (sym place_is) ∙ back.unforced))
            (eq-eqb state.instant (ready plant t (admissions front t) (suc m)) (rep.time ∙ sym now_ready.0 ∙ ready_is))))
            back.still

        of : (o : Option ℕ) → (state_of state.trains t).deferred ≡ o → (state_of state.trains t).deferred ≡ None
        of None is = is
        of (Some at) is = absurd (none_held at (rep.pending.deferred t at next.known_train is))

    -- when it arrives by then
    arrive_passing : is_now ≡ true → arrive plant t (admissions front t ++ state.instant ∷ []) m ≡ times.go
    arrive_passing pass = arrives_passing plant t (admissions front t ++ state.instant ∷ []) m more_moves pass ∙ sym (go_is ∙ ap (go plant t (admissions front t ++ state.instant ∷ [])) here)

    arrive_stopped : is_now ≡ false → arrive plant t (admissions front t ++ state.instant ∷ []) m ≡ arrive plant t (admissions front t) m
    arrive_stopped pass =
        let run_same : free_run plant t (admissions front t ++ state.instant ∷ []) (suc m)
        ≡ free_run plant t (admissions front t) (suc m) =
        free_run_agrees plant t (admissions front t ++ state.instant ∷ []) (admissions front t) (place front t) (suc m) (agree_added (admissions front t) state.instant)
        (omega (arith, here)) in
        arrives_stopping plant t (admissions front t ++ state.instant ∷ []) m more_moves pass ∙ ap (stop_time plant t) run_same ∙ sym arrive_old

    times_pass : times.passes ≡ is_now
    times_pass = passes_is ∙ ap (passes plant t (admissions front t ++ state.instant ∷ [])) here

    abbrev more : List ℕ
    more = admissions front t ++ state.instant ∷ []

    -- the move takes the section of the overlap over
    abbrev is_taken : ℕ → Bool
    is_taken x = is_in x (claimed plant t (suc m)) && is_train t (get_or state.holders x None)

    -- the free lines of the overlap before the admission and after it
    old_frees : (q : Event → Bool) → tally (λ e. q (event_of e)) (overlap_frees plant t (admissions front t) m)
        ≡ count_by q (free_events (timer_end plant t (admissions front t) m) t (overlap plant t m))
    old_frees q = last_frees plant t m fine (admissions front t) (omega (arith, here)) q

    new_frees : (q : Event → Bool) → tally (λ e. q (event_of e)) (overlap_frees plant t more m)
        ≡ count_by q (free_events (timer_end plant t more m) t (filter (λ x. not (is_taken x)) (overlap plant t m)))
    new_frees q =
        let at : ℕ → ℕ = λ i. step_section plant t m (steps plant t m + i) in
        let G : ℕ → Type 0 = λ n. overlap_frees plant t more m
        ≡ gather (λ i. cond (is_in (at i) (claimed plant t n) && is_train t (get_or state.holders (at i) None)) [] (at_time (timer_end plant t more m) (Free (at i) t) ∷ [])) (length (overlap plant t m)) in
        ap (tally (λ e. q (event_of e))) (subst G here (overlap_frees_after (input_of dispatch plant) rep.accepted line front rep.lawful t (suc (place front t)) note by_it state.holders rep.holders free_each m (sym here)))
        ∙ overlap_lines plant t m q (timer_end plant t more m) is_taken

    -- a train that passes holds all of the overlap still
    all_held : is_now ≡ true → (x : ℕ) → is_in x (overlap plant t m) ≡ true → is_train t (get_or state.holders x None) ≡ true
    all_held pass x there =
        let own : IsOwnStep plant t (suc m) x = own_step plant t (suc m) x there in
        let same_move : own.move ≡ m = omega (arith, own.last) in
        let S : ℕ → Type 0 = λ n. steps plant t n ≤ own.step in
        let C : ℕ → Type 0 = λ n. own.step < claims plant t n in
        let X : ℕ → Type 0 = λ n. step_section plant t n own.step ≡ x in
        let H : ℕ → Type 0 = λ y. is_train t (get_or state.holders y None) ≡ true in
        subst H (subst X same_move own.section)
        (passing_holds (input_of dispatch plant) rep.accepted line front rep.lawful t (suc (place front t)) note by_it state.holders rep.holders free_each m own.step
        (record { known = next.known_train; admitted_move = omega (arith, here); step = subst C same_move own.claimed }) (sym here) (subst S same_move own.over) pass)

    distinct_own : are_distinct_numbers (overlap plant t m) ≡ true
    distinct_own =
        let row = row_in_range plant (accepted_parts plant rep.accepted).trains_in_range t next.known_train in
        behind (needed plant t m) (overlap plant t m) (move_in_range (length plant.tables.sections) (move_row plant t m) (row.each_move m (omega (arith, left, here)))).distinct
      where
        behind : (xs ys : List ℕ) → are_distinct_numbers (xs ++ ys) ≡ true → are_distinct_numbers ys ≡ true
        behind [] ys distinct = distinct
        behind (x ∷ xs) ys distinct = behind xs ys (and_parts (not (is_in x (xs ++ ys))) (are_distinct_numbers (xs ++ ys)) distinct).1

    balanced_passing : (q : Event → Bool) → is_now ≡ true → AreBalanced q (suc m)
    balanced_passing q pass =
        let es : List Event = state.queue.events in
        let own : List ℕ = overlap plant t m in
        let claims_it : ℕ → Bool = λ x. is_in x (claimed plant t (suc m)) in
        let spell : ℕ = plant.tables.overlap_time in
        let passes_now : times.passes ≡ true = times_pass ∙ pass in
        let same : filter (λ x. not (claims_it x)) own ≡ filter (λ x. not (is_taken x)) own =
        filter_there (λ x. not (claims_it x)) (λ x. not (is_taken x)) own (λ x there. ap not (with_true (claims_it x) (is_train t (get_or state.holders x None)) (all_held pass x there))) in
        omega (
          arith,
          ap (λ b. count_by (λ e. not (is_free_of (cond b [] (taken_over plant state.holders t (suc m))) e) && q e) es) passes_now,
          ap (λ b. count_by q (cond b (free_events (times.go + spell) t (filter (λ x. not (claims_it x)) own)) [])) passes_now,
          ap (λ xs. count_by q (free_events (times.go + spell) t xs)) same,
          ap (λ a. count_by q (free_events (a + spell) t (filter (λ x. not (is_taken x)) own))) (arrive_passing pass),
          new_frees q,
          old_frees q,
          ap (λ k. count_by q (deferred_frees plant t k (state_of state.trains t).deferred)) place_is,
          ap (λ o. count_by q (deferred_frees plant t (suc m) o)) (deferred_passing pass),
        )
      where
        with_true : (a b : Bool) → b ≡ true → a ≡ (a && b)
        with_true true b is = sym is
        with_true false b is = refl

    balanced_stopping : (q : Event → Bool) → is_now ≡ false → AreBalanced q (suc m)
    balanced_stopping q pass =
        let es : List Event = state.queue.events in
        let own : List ℕ = overlap plant t m in
        let spell : ℕ = plant.tables.overlap_time in
        let timer : ℕ = timer_end plant t (admissions front t) m in
        let gone : List ℕ = taken_over plant state.holders t (suc m) in
        let passes_now : times.passes ≡ false = times_pass ∙ pass in
        let none : (state_of state.trains t).deferred ≡ None = deferred_stopping pass in
        omega (
          arith,
          ap (λ b. count_by (λ e. not (is_free_of (cond b [] gone) e) && q e) es) passes_now,
          ap (λ b. count_by q (cond b (free_events (times.go + spell) t (filter (λ x. not (is_in x (claimed plant t (suc m)))) own)) [])) passes_now,
          ap (λ a. count_by q (free_events (a + spell) t (filter (λ x. not (is_taken x)) own))) (arrive_stopped pass),
          new_frees q,
          old_frees q,
          free_events_parts q timer t is_taken own,
          count-parts q (is_free_of gone) es,
          free_of_each q timer t es gone (filter_distinct is_taken own distinct_own)
              (λ x there. let both = passed_there is_taken own x there in
              one_pending dispatch plant front state rep deciding t next.known_train m (sym here) x both.0 (and_parts (is_in x (claimed plant t (suc m))) (is_train t (get_or state.holders x None)) both.1).1 none q),
          ap (λ o. count_by q (deferred_frees plant t (state_of state.trains t).place o)) none,
        )

  -- the arrival that was deferred, where the train passes and where it doesn't
  passing_balance : (q : Event → Bool) → count_by q (passing_event t (place front t) times) + tally (λ e. q (event_of e)) (arrival_before plant t (admissions front t) (place front t))
      ≡ tally (λ e. q (event_of e)) (arrival_before plant t (admissions front t ++ state.instant ∷ []) (place front t))
      + count_by q (deferred_event t (state_of state.trains t).place (state_of state.trains t).deferred)
  passing_balance q = of (place front t) refl
    where
      no_arrival : (m : ℕ) (o : Option ℕ) → ((at : ℕ) → o ≡ Some at → ⊥) → count_by q (deferred_event t m o) ≡ 0
      no_arrival m None none = refl
      no_arrival m (Some at) none = absurd (none at refl)

      of : (k : ℕ) → place front t ≡ k → count_by q (passing_event t k times) + tally (λ e. q (event_of e)) (arrival_before plant t (admissions front t) k)
          ≡ tally (λ e. q (event_of e)) (arrival_before plant t (admissions front t ++ state.instant ∷ []) k)
          + count_by q (deferred_event t (state_of state.trains t).place (state_of state.trains t).deferred)
      of zero here =
          omega (arith, no_arrival (state_of state.trains t).place (state_of state.trains t).deferred (λ at held. omega (arith, (rep.pending.deferred t at next.known_train held).begun, rep.times.places t next.known_train, here)))
      of (suc m) here = ⊎_elim passing stopping (cases_Bool (passes plant t (admissions front t ++ state.instant ∷ []) (suc m)))
        where
          was : tally (λ e. q (event_of e)) (arrival_before plant t (admissions front t) (suc m)) ≡ cond (q (train_event (arrive plant t (admissions front t) m) class.Arrive t (suc m))) 1 0
          was = omega arith

          is_now_there : tally (λ e. q (event_of e)) (arrival_before plant t (admissions front t ++ state.instant ∷ []) (suc m)) ≡ cond (q (train_event (arrive plant t (admissions front t ++ state.instant ∷ []) m) class.Arrive t (suc m))) 1 0
          is_now_there = omega arith

          one : (o : Option ℕ) (at : ℕ) → o ≡ Some at → count_by q (deferred_event t (suc m) o) ≡ cond (q (train_event at class.Arrive t (suc m))) 1 0
          one o at is = ap (λ x. count_by q (deferred_event t (suc m) x)) is ∙ omega arith

          passing : passes plant t (admissions front t ++ state.instant ∷ []) (suc m) ≡ true
              → count_by q (passing_event t (suc m) times) + tally (λ e. q (event_of e)) (arrival_before plant t (admissions front t) (suc m))
              ≡ tally (λ e. q (event_of e)) (arrival_before plant t (admissions front t ++ state.instant ∷ []) (suc m))
              + count_by q (deferred_event t (state_of state.trains t).place (state_of state.trains t).deferred)
          passing pass =
              let told : count_by q (passing_event t (suc m) times)
              ≡ cond (q (train_event times.go class.Arrive t (suc m))) 1 0 =
              ap (count_by q) (cond-true (nat_lt 0 (suc m) && times.passes) (train_event times.go class.Arrive t (suc m) ∷ []) []
              (and_from (nat_lt 0 (suc m)) times.passes (lt-ltb 0 (suc m) (omega arith)) (times_pass m here ∙ pass))) ∙ omega arith in
              omega (
                arith,
                told,
                was,
                is_now_there,
                ap {B = ℕ} (λ at. cond (q (train_event at class.Arrive t (suc m))) 1 0) (arrive_passing m here pass),
                ap (λ k. count_by q (deferred_event t k (state_of state.trains t).deferred)) (place_is m here),
                one (state_of state.trains t).deferred (arrive plant t (admissions front t) m) (deferred_passing m here pass),
              )

          stopping : passes plant t (admissions front t ++ state.instant ∷ []) (suc m) ≡ false
              → count_by q (passing_event t (suc m) times) + tally (λ e. q (event_of e)) (arrival_before plant t (admissions front t) (suc m))
              ≡ tally (λ e. q (event_of e)) (arrival_before plant t (admissions front t ++ state.instant ∷ []) (suc m))
              + count_by q (deferred_event t (state_of state.trains t).place (state_of state.trains t).deferred)
          stopping pass =
              let told : count_by q (passing_event t (suc m) times) ≡ 0 = ap (count_by q) (cond-false (nat_lt 0 (suc m) && times.passes) (train_event times.go class.Arrive t (suc m) ∷ []) [] (and_right (nat_lt 0 (suc m)) times.passes (times_pass m here ∙ pass))) in
              omega (
                arith,
                told,
                was,
                is_now_there,
                ap {B = ℕ} (λ at. cond (q (train_event at class.Arrive t (suc m))) 1 0) (arrive_stopped m here pass),
                ap (λ o. count_by q (deferred_event t (state_of state.trains t).place o)) (deferred_stopping m here pass),
              )

  frees_balance : (q : Event → Bool) → AreBalanced q (place front t)
  frees_balance q = of (place front t) refl
    where
      of : (k : ℕ) → place front t ≡ k → AreBalanced q k
      of zero here =
          omega (
            arith,
            unforgotten times.passes,
            no_frees times.passes,
            ap (λ k. count_by q (deferred_frees plant t k (state_of state.trains t).deferred)) (rep.times.places t next.known_train ∙ here),
            no_overlap (state_of state.trains t).deferred,
          )
        where
          unforgotten : (b : Bool) → count_by (λ e. not (is_free_of (cond b [] []) e) && q e) state.queue.events ≡ count_by q state.queue.events
          unforgotten true = refl
          unforgotten false = refl

          no_frees : (b : Bool) → count_by q (cond b [] []) ≡ 0
          no_frees true = refl
          no_frees false = refl

          no_overlap : (o : Option ℕ) → count_by q (deferred_frees plant t 0 o) ≡ 0
          no_overlap None = refl
          no_overlap (Some at) = refl
      of (suc m) here = ⊎_elim (balanced_passing m here q) (balanced_stopping m here q) (cases_Bool (passes plant t (admissions front t ++ state.instant ∷ []) (suc m)))

  lines_balance : (p : Entry → Bool) → tally p (gained plant t (admissions front t ++ state.instant ∷ []) (place front t))
      ≡ tally p (arrival_before plant t (admissions front t ++ state.instant ∷ []) (place front t))
      + tally p (frees_before plant t (admissions front t ++ state.instant ∷ []) (place front t))
      + tally p (freed_before plant t (admissions front t ++ state.instant ∷ []) (place front t))
      + tally p (step_lines plant t (admissions front t ++ state.instant ∷ []) (place front t))
      + tally p (end_lines plant t (admissions front t ++ state.instant ∷ []) (place front t))
  lines_balance p =
      let m : ℕ = place front t in
      let now : List ℕ = admissions front t ++ state.instant ∷ [] in
      let enters : List Entry = gather (λ j. enter_line plant t now m j ∷ []) (steps plant t m) in
      let frees : List Entry = gather (λ j. free_lines t (step_section plant t m j) (end_of plant t now m j)) (steps plant t m) in
      let all_frees : List Entry = gather (λ j. free_lines t (step_section plant t m j) (freed_at plant t now m j)) (claims plant t m) in
      let arrives : List Entry = arrive_line plant t now m ∷ [] in
      let arrival : List Entry = arrive_line plant t now m ∷ overlap_frees plant t now m in
      omega (
        arith,
        tally-append p (taken_back plant t now m ++ freed_before plant t now m ++ move_events plant t now m) (ready_after plant t now m),
        tally-append p (taken_back plant t now m ++ freed_before plant t now m) (move_events plant t now m),
        tally-append p (taken_back plant t now m) (freed_before plant t now m),
        tally-append p (enters ++ arrives ++ all_frees) (out_lines plant t now m),
        tally-append p (enters ++ arrives) all_frees,
        taken_back_parts p plant t now m,
        frees_parts p plant t now m,
        tally-append p enters arrives,
        tally-append p enters frees,
        tally-append p (arrival ++ out_lines plant t now m) (ready_after plant t now m),
        tally-append p arrival (out_lines plant t now m),
      )

  counted : (q : Event → Bool) → count_by q after_it.queue.events + count_by q (deferred_events plant after_it.trains) ≡ tally (λ e. q (event_of e)) (due_lines (input_of dispatch plant) (line ∷ front))
  counted q =
      let p : Entry → Bool = λ e. q (event_of e) in
      omega (
        arith,
        rep.pending.counted q,
        has.pushed q,
        admission_due (input_of dispatch plant) fine line front (lawful_line dispatch plant front state rep going deciding t next note list noted) t (suc (place front t)) note (admits dispatch plant front state rep going deciding t next note list noted) p (λ at k. refl),
        ap (λ list'. tally p (gained plant t list' (place front t))) added,
        lines_balance p,
        taken_back_parts p plant t (admissions front t) (place front t),
        passing_balance q,
        frees_balance q,
        count-exchanged q (λ u. deferred_of plant u (state_of state.trains u).place (state_of state.trains u).deferred) (λ u. deferred_of plant u (state_of after_it.trains u).place (state_of after_it.trains u).deferred) (trains plant) t next.known_train
            (λ u lt other. ap (λ (r : TrainState). deferred_of plant u r.place r.deferred) (sym (other_state u lt other))),
        ap (λ (r : TrainState). count_by q (deferred_of plant t r.place r.deferred)) this_state,
        ap (λ m. count_by q (deferred_of plant t (suc m) arrival)) (rep.times.places t next.known_train),
        count-append q (deferred_event t (state_of state.trains t).place (state_of state.trains t).deferred) (deferred_frees plant t (state_of state.trains t).place (state_of state.trains t).deferred),
      )

  -- the held arrival at the end of the move comes after the train is ready for the next one
  early : (at : ℕ) → is_forced plant t (suc (place front t)) ≡ false → suc (place front t) < moves plant t → at ≡ stop_time plant t times.free_run → times.next_ready < at
  early at unforced more_left stops =
      let now : List ℕ = admissions front t ++ state.instant ∷ [] in
      let m : ℕ = place front t in
      let run_is : times.free_run ≡ free_run plant t now (suc m) = ap (λ ts. ts.free_run) has.are_times in
      let ready_is : times.next_ready ≡ ready plant t now (suc m) = ap (λ ts. ts.next_ready) has.are_times ∙ carried_ready plant t now (suc m) more_left in
      let soon : state.instant < free_run plant t now (suc m) = omega (arith, go_after_admission plant t fine now m left, run_after_go plant t fine now m left, admitted_added (admissions front t) state.instant) in
      let unforced_ready : ready plant t now (suc m) ≡ max (previous now (suc m)) (free_run plant t now (suc m) - (signal_time plant t (suc m) + (move_row plant t (suc m)).approach)) =
      cond-false (is_forced plant t (suc m)) _ (max (previous now (suc m))
      (free_run plant t now (suc m) - (signal_time plant t (suc m) + (move_row plant t (suc m)).approach))) unforced in
      let setting : 0 < (move_row plant t (suc m)).setting = fine.some_setting t (suc m) more_left in
      omega (arith, stops, run_is, ready_is, soon, unforced_ready, setting, admitted_added (admissions front t) state.instant)

  -- an arrival that is deferred, of this train or of another one
  held_after : (u at : ℕ) → u < trains plant → (state_of after_it.trains u).deferred ≡ Some at → IsDeferred plant u state.instant (state_of after_it.trains u) at
  held_after u at lt held =
      ⊎_elim
      (λ here. let e : t ≡ u = sym (eqb-true u t here) in subst (λ v. (state_of after_it.trains v).deferred ≡ Some at → IsDeferred plant v state.instant (state_of after_it.trains v) at) e this_train held)
      (λ other_train.
      let same = other_state u lt (λ e. false≢true (sym other_train ∙ eq-eqb u t e)) in
      let back = rep.pending.deferred u at lt (sym (ap (λ (r : TrainState). r.deferred) same) ∙ held) in
      subst (λ (r : TrainState). IsDeferred plant u state.instant r at) (sym same) (record {
        begun = back.begun;
        left = back.left;
        unforced = back.unforced;
        stops = back.stops;
        early = back.early;
        still = subst (λ now. ((state_of state.trains u).waits ≡ false) ⊎ (((state_of state.trains u).times.next_ready ≡ now) × ((state_of state.trains u).last_hold ≡ None))) (sym rep.time) back.still;
      }))
      (cases_Bool (eqb u t))
    where
      this_train : (state_of after_it.trains t).deferred ≡ Some at → IsDeferred plant t state.instant (state_of after_it.trains t) at
      this_train held' =
          let is : arrival ≡ Some at = sym (ap (λ (r : TrainState). r.deferred) this_state) ∙ held' in
          let facts = has.deferred at is in
          let place_is : (state_of state.trains t).place ≡ place front t = rep.times.places t next.known_train in
          subst (λ (r : TrainState). IsDeferred plant t state.instant r at) (sym this_state) (record {
            begun = omega arith;
            left = omega (arith, facts.1, place_is);
            unforced = ap (λ k. is_forced plant t (suc k)) place_is ∙ facts.0;
            stops = facts.2;
            early = early at facts.0 facts.1 facts.2;
            still = inl refl;
          })

  bound_after : (u : ℕ) → u < trains plant → (state_of after_it.trains u).deferred ≡ None → 0 < (state_of after_it.trains u).place → (state_of after_it.trains u).place < moves plant u → IsBound plant u (state_of after_it.trains u)
  bound_after u lt none some left_now =
      ⊎_elim
      (λ here. let e : t ≡ u = sym (eqb-true u t here) in subst (λ v. (state_of after_it.trains v).deferred ≡ None → (state_of after_it.trains v).place < moves plant v → IsBound plant v (state_of after_it.trains v)) e this_train none left_now)
      (λ other_train.
      let same = other_state u lt (λ e. false≢true (sym other_train ∙ eq-eqb u t e)) in
      subst (λ (r : TrainState). IsBound plant u r) (sym same) (rep.pending.bound u lt (sym (ap (λ (r : TrainState). r.deferred) same) ∙ none) (subst (λ (r : TrainState). 0 < r.place) same some) (subst (λ (r : TrainState). r.place < moves plant u) same left_now)))
      (cases_Bool (eqb u t))
    where
      this_train : (state_of after_it.trains t).deferred ≡ None → (state_of after_it.trains t).place < moves plant t → IsBound plant t (state_of after_it.trains t)
      this_train none' left' =
          let place_is : (state_of after_it.trains t).place ≡ suc (place front t) = ap (λ (r : TrainState). r.place) this_state ∙ ap suc (rep.times.places t next.known_train) in
          ⊎_elim
          (λ forced. inl (ap (is_forced plant t) place_is ∙ forced))
          (λ last. absurd (omega (arith, last, left', place_is)))
          (has.not_deferred (sym (ap (λ (r : TrainState). r.deferred) this_state) ∙ none'))

  -- a part of a train that an admission leaves, of this train too
  same_part : {B : Type 0} (part : TrainState → B) → ((r : TrainState) → part (admitted_state times arrival r) ≡ part r) → ((r : TrainState) (known : Option Cause) → part (record r { known = known }) ≡ part r) → (u : ℕ) → u < trains plant → part (state_of after_it.trains u) ≡ part (state_of state.trains u)
  same_part part this other u lt =
      ⊎_elim
      (λ here. let e : t ≡ u = sym (eqb-true u t here) in subst (λ v. part (state_of after_it.trains v) ≡ part (state_of state.trains v)) e (ap part this_state ∙ this (state_of state.trains t)))
      (λ other_train. ap part (other_state u lt (λ e. false≢true (sym other_train ∙ eq-eqb u t e))) ∙ other (state_of state.trains u) (after_taking plant after_it.holders u (state_of state.trains u)).known)
      (cases_Bool (eqb u t))

  still_hold : StillHold state.holders after_it.holders
  still_hold = subst (StillHold state.holders) (sym has.holders) (taking_holds state.holders t (own_overlap plant t (place front t)) (claimed plant t (place front t)) free_before)

  -- what is known then was known of another train that waits, and outlasts the taking
  known_before : (u : ℕ) (why : Cause) → u < trains plant → (state_of after_it.trains u).known ≡ Some why
      → (u ≡ t → ⊥) × (((state_of state.trains u).waits && outlasts_taking after_it.holders u (own_overlap plant u (state_of state.trains u).place) (claimed plant u (state_of state.trains u).place) (state_of state.trains u).known) ≡ true)
      × ((state_of state.trains u).known ≡ Some why)
  known_before u why lt is =
      ⊎_elim
      (λ here.
      let e : t ≡ u = sym (eqb-true u t here) in
      absurd (none-some why (subst (λ v. (state_of after_it.trains v).known ≡ Some why → None ≡ Some why) e (λ known. sym (ap (λ (r : TrainState). r.known) this_state) ∙ known) is)))
      (λ other_train.
      let other : u ≡ t → ⊥ = λ e. false≢true (sym other_train ∙ eq-eqb u t e) in
      let train_state : TrainState = state_of state.trains u in
      let was = outlasting_known (train_state.waits && outlasts_taking after_it.holders u (own_overlap plant u train_state.place) (claimed plant u train_state.place) train_state.known) train_state.known why
      (sym (ap (λ (r : TrainState). r.known) (other_state u lt other)) ∙ is) in
      (other, was.0, was.1))
      (cases_Bool (eqb u t))

  -- it is the cause still
  cause_still : (u : ℕ) (why : Cause) → u < trains plant → (state_of after_it.trains u).known ≡ Some why → seen_cause (input_of dispatch plant) (line ∷ front) after_it.holders u ≡ Some why
  cause_still u why lt is =
      let was = known_before u why lt is in
      let train_state : TrainState = state_of state.trains u in
      let sections : List ℕ = claimed plant u (place front u) in
      let orders : told dispatch.commands (line ∷ front) ≡ told dispatch.commands front = tells_none dispatch line front refl in
      let same_place : place (line ∷ front) u ≡ place front u = ap length (others u was.0) in
      let own : List ℕ = own_overlap plant u (place front u) in
      let outlasts : outlasts_taking after_it.holders u own sections (Some why) ≡ true =
      ap (λ p. outlasts_taking after_it.holders u (own_overlap plant u p) (claimed plant u p) (Some why)) (sym (rep.times.places u lt))
      ∙ ap (outlasts_taking after_it.holders u (own_overlap plant u train_state.place) (claimed plant u train_state.place)) (sym was.2)
      ∙ (and_parts train_state.waits (outlasts_taking after_it.holders u (own_overlap plant u train_state.place) (claimed plant u train_state.place) train_state.known) was.1).1 in
      let input = input_of dispatch plant in
      let known_list : Front → Bool = λ f. is_repairable input f u || finds (moves_of plant) plant.tables.depth (places_after input f u) in
      (λ i. or_else (seen_bar (orders i) after_it.holders u (own_overlap plant u (same_place i)) (claimed plant u (same_place i))) (list_cause input (line ∷ front) u))
      ∙ seen_outlasting state.holders after_it.holders still_hold u own sections (stop_cause u (told dispatch.commands front)) (closed_cause sections (told dispatch.commands front))
      (known_list front) (known_list (line ∷ front)) why (rep.known.cause u why lt was.2) outlasts

  -- the run stands for the front with the line
  pub admitted_line : Represents dispatch plant (line ∷ front) after_it
  admitted_line =
      let lawful = lawful_line dispatch plant front state rep going deciding t next note list noted in
      let by_it = admits dispatch plant front state rep going deciding t next note list noted in
      let unready = unready_by_admission (input_of dispatch plant) line front t (suc (place front t)) note lawful by_it in
      record {
        accepted = rep.accepted;
        lawful = lawful;
        time = has.time;
        ended = has.going ∙ rep.ended ∙ going;
        begun = λ none. absurd (omega (arith, ap length none));
        times = record {
          many = has.many ∙ rep.times.many;
          places = λ u lt.
              ⊎_elim
              (λ here. let e : t ≡ u = sym (eqb-true u t here) in subst (λ v. (state_of after_it.trains v).place ≡ place (line ∷ front) v) e
              (ap (λ (r : TrainState). r.place) this_state ∙ ap suc (rep.times.places t next.known_train) ∙ sym (ap length added ∙ length_added (admissions front t) state.instant)))
              (λ other_train.
              let other : u ≡ t → ⊥ = λ e. false≢true (sym other_train ∙ eq-eqb u t e) in
              ap (λ (r : TrainState). r.place) (other_state u lt other) ∙ rep.times.places u lt ∙ sym (ap length (others u other)))
              (cases_Bool (eqb u t));
          times = λ u lt.
              ⊎_elim
              (λ here. let e : t ≡ u = sym (eqb-true u t here) in subst (λ v. (state_of after_it.trains v).times ≡ times_at plant v (admissions (line ∷ front) v) (place (line ∷ front) v)) e
              (ap (λ (r : TrainState). r.times) this_state ∙ has.are_times ∙ ap (times_at plant t (admissions front t ++ state.instant ∷ [])) (sym (length_added (admissions front t) state.instant)) ∙ sym (ap (λ list'. times_at plant t list' (length list')) added)))
              (λ other_train.
              let other : u ≡ t → ⊥ = λ e. false≢true (sym other_train ∙ eq-eqb u t e) in
              ap (λ (r : TrainState). r.times) (other_state u lt other) ∙ rep.times.times u lt ∙ sym (ap (λ list'. times_at plant u list' (length list')) (others u other)))
              (cases_Bool (eqb u t));
        };
        pending = record { counted = counted; deferred = held_after; bound = bound_after };
        heads = record {
          place_counts = λ u lt. subst (λ h. 0 < h.place) (sym (same_part (λ r. r.head) (λ r. refl) (λ r known. refl) u lt)) (rep.heads.place_counts u lt);
          step_counts = λ u lt. subst (λ h. 0 < h.step) (sym (same_part (λ r. r.head) (λ r. refl) (λ r known. refl) u lt)) (rep.heads.step_counts u lt);
          heads = λ u lt. subst (λ h. IsHead plant (line ∷ front) u (h.place - 1) (h.step - 1)) (sym (same_part (λ r. r.head) (λ r. refl) (λ r known. refl) u lt))
              (head_kept (input_of dispatch plant) fine line front lawful u ((state_of state.trains u).head.place - 1) ((state_of state.trains u).head.step - 1) refl (rep.heads.heads u lt));
        };
        waiting = record {
          ready = λ u lt.
              ⊎_elim
              (λ here. let e : t ≡ u = sym (eqb-true u t here) in subst (λ v. (state_of after_it.trains v).waits ≡ is_ready (input_of dispatch plant) (line ∷ front) v) e (ap (λ (r : TrainState). r.waits) this_state ∙ sym unready.0))
              (λ other_train.
              let other : u ≡ t → ⊥ = λ e. false≢true (sym other_train ∙ eq-eqb u t e) in
              ap (λ (r : TrainState). r.waits) (other_state u lt other) ∙ rep.waiting.ready u lt ∙ sym (unready.1 u other))
              (cases_Bool (eqb u t));
          told = λ u lt.
              ⊎_elim
              (λ here. let e : t ≡ u = sym (eqb-true u t here) in subst (λ v. (state_of after_it.trains v).last_hold ≡ last_hold (line ∷ front) v (suc (place (line ∷ front) v))) e
              (ap (λ (r : TrainState). r.last_hold) this_state
              ∙ sym (no_later_hold (input_of dispatch plant) front t (suc (place front t)) rep.lawful (omega arith))
              ∙ sym (unheld line front t (suc (suc (place front t))) refl)
              ∙ sym (ap (λ k. last_hold (line ∷ front) t (suc k)) (ap length added ∙ length_added (admissions front t) state.instant))))
              (λ other_train.
              let other : u ≡ t → ⊥ = λ e. false≢true (sym other_train ∙ eq-eqb u t e) in
              ap (λ (r : TrainState). r.last_hold) (other_state u lt other) ∙ rep.waiting.told u lt ∙ sym (unheld line front u (suc (place front u)) refl) ∙ sym (ap (λ k. last_hold (line ∷ front) u (suc k)) (ap length (others u other))))
              (cases_Bool (eqb u t));
          out = λ u lt. same_part (λ r. r.is_out) (λ r. refl) (λ r known. refl) u lt ∙ rep.waiting.out u lt ∙ sym (out_kept line front u refl);
        };
        holders = subst (AreHolders plant (line ∷ front)) (sym has.holders)
            (holders_taken (input_of dispatch plant) rep.accepted line front lawful t (suc (place front t)) note by_it state.holders
            (each_free state.holders t (own_overlap plant t (place front t)) (claimed plant t (place front t)) free_before) rep.holders);
        known = record {
          cause = cause_still;
          waits = λ u why lt is.
              let was = known_before u why lt is in
              let train_state : TrainState = state_of state.trains u in
              ap (λ (r : TrainState). r.waits) (other_state u lt was.0)
              ∙ (and_parts train_state.waits (outlasts_taking after_it.holders u (own_overlap plant u train_state.place) (claimed plant u train_state.place) train_state.known) was.1).0;
          at_first_section = λ u why lt is.
              let was = known_before u why lt is in
              at_first_kept plant state.trains after_it.trains u why lt rep.known.at_first_section was.2 (ap (λ (r : TrainState). r.place) (other_state u lt was.0)) (ap (λ (r : TrainState). r.at_first) (other_state u lt was.0));
          no_more = λ held_last u lt waits. absurd (false≢true held_last);
        };
        settled = λ settled. absurd (false≢true (sym has.settled ∙ settled));
      }
