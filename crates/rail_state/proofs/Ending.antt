-- The end line: what it says, and that nothing changes.
use Rattle.std.proofs.Common.{◌||◌, eqb, ◌≡◌, ℕ, zero, suc, ◌-◌, ◌<◌, Bool, true, false, not, cond, [], ◌∷◌, ◌++◌, length, Option, Some, None, refl, sym, ap, ◌∙◌, subst, ⊎_elim, arith}
use Rattle.std.specs.Prelude.{count_by}
use Rattle.std.specs.List.{filter}
use Rattle.std.specs.Cmp.Lexicographic.{bytes_decides}
use Rattle.std.proofs.lemmas.Bool.{and_from, cases_Bool, false_from_ne_true, false≢true, not_from_false}
use Rattle.std.proofs.lemmas.List.Elements.{filter-append}
use Rattle.std.proofs.lemmas.Option.{none-some}
use Rattle.std.specs.List.{list_any}
use Rattle.rail_rules.specs.Fronts.{instant}
use Rattle.rail_base.specs.declared.history.Entry.{Entry}
use Rattle.rail_base.specs.declared.history.What.TheVariants.{End}
use Rattle.rail_rules.specs.Numbers.{listed}
use Rattle.rail_rules.specs.Plant.{Plant, trains, moves}
use Rattle.rail_rules.specs.Fronts.{Front, Line, admissions, at_time, has_ended}
use Rattle.rail_rules.specs.Events.{ready_line}
use Rattle.rail_rules.specs.Causes.{place}
use Rattle.rail_rules.specs.Lawful.{is_lawful, is_out, may_follow, remaining}
use Rattle.rail_laws_front.specs.Premises.{IsWellFormed}
use Rattle.rail_laws_front.specs.Views.{Ends}
use Rattle.rail_laws_front.specs.EventLines.IsEvent.{readying}
use Rattle.rail_laws_events.specs.Accounts.{tally}
use Rattle.rail_laws_step.proofs.CallerLemmas.{other_left}
use Rattle.rail_state.proofs.FirstSections.{at_first_kept}
use Rattle.rail_state.proofs.Seen.{seen_kept}
use Rattle.rail_laws_events.proofs.CallerLemmas.{tally_all, tally-le, tally-some}
use Rattle.rail_rules.specs.Orders.{is_cancelled, told, Dispatch, input_of}
use Rattle.rail_rules.specs.Events.{due_lines}
use Rattle.rail_laws_step.specs.HolderTables.{AreHolders}
use Rattle.rail_laws_step.specs.Heads.{IsHead}
use Rattle.rail_queue.specs.declared.event.Event.{Event}
use Rattle.rail_state.specs.Events.{deferred_of, event_of}
use Rattle.rail_state.specs.TrainStates.{state_of}
use Rattle.rail_state.specs.Representation.{IsBound, IsEndLine, Represents, left_of}
use Rattle.rail_state.proofs.Below.{well_formed_plant, follows_end, head_kept, hold_kept, holders_kept, out_kept, ready_kept}
use Rattle.rail_state.proofs.EventCodes.{same_event, same_event-self}
use Rattle.rail_state.proofs.Counts.{count-gather_zero}
use Rattle.rail_state.proofs.Lines.{is_free_line, is_ready_line}
use Rattle.rail_state.proofs.Next.{due_some, runs_inside, held_no_ready, ready_to_come}
use Rattle.rail_state.proofs.Settling.{settled_front}
use Rattle.rail_state.proofs.Times.{times_kept}
use Rattle.rail_state.specs.declared.run_state.RunState.{RunState}
use Rattle.rail_state.specs.SeenCauses.{seen_cause}

filter_same : (p q : ℕ → Bool) (n : ℕ) → ((t : ℕ) → t < n → p t ≡ q t) → filter p (listed (λ t. t) n) ≡ filter q (listed (λ t. t) n)
filter_same p q zero same = refl
filter_same p q (suc n) same =
    filter-append p (listed (λ t. t) n) (n ∷ [])
    ∙ ap (λ xs. xs ++ filter p (n ∷ [])) (filter_same p q n (λ t lt. same t (omega (arith, lt))))
    ∙ ap (λ b. filter q (listed (λ t. t) n) ++ cond b (n ∷ []) []) (same n (omega arith))
    ∙ sym (filter-append q (listed (λ t. t) n) (n ∷ []))

module _ (dispatch : Dispatch) (plant : Plant) (front : Front) (state : RunState) (rep : Represents dispatch plant front state) (going : has_ended front ≡ false) (settled : state.is_settled ≡ true) (empty : state.queue.events ≡ []) where
  abbrev pub line : Line
  line = record { entry = at_time state.instant End; trains = left_of dispatch plant front state.trains }

  fine : IsWellFormed plant
  fine = well_formed_plant plant rep.accepted

  lawful_now : is_lawful (input_of dispatch plant) front ≡ true
  lawful_now = rep.lawful

  -- no arrival is deferred
  none_held : (t at : ℕ) → t < trains plant → (state_of state.trains t).deferred ≡ Some at → ⊥
  none_held t at known held =
      let back = rep.pending.deferred t at known held in
      let left : place front t < moves plant t = omega (arith, back.left, rep.times.places t known) in
      let unready : (state_of state.trains t).waits ≡ false → ⊥ = λ waits.
      let ready = ready_line plant t (admissions front t) (place front t) in
      let some = due_some dispatch plant front (λ d. same_event (event_of ready) (event_of d)) t ready known
      (readying (place front t) (omega arith) left (runs_inside dispatch plant front state rep t (omega (arith, back.begun, rep.times.places t known))) refl)
      (ready_to_come dispatch plant front t (runs_inside dispatch plant front state rep t (omega (arith, back.begun, rep.times.places t known))) left
      (sym (rep.waiting.ready t known) ∙ waits)) (same_event-self (event_of ready)) in
      omega (arith, some, rep.pending.counted (same_event (event_of ready)), ap (count_by (same_event (event_of ready))) empty, held_no_ready plant state.trains ready.at t (suc (place front t))) in
      ⊎_elim unready
      (λ now. ⊎_elim
      (λ waits. let told = rep.settled settled t known waits in absurd (none-some told.why (sym now.1 ∙ told.told)))
      unready
      (cases_Bool (state_of state.trains t).waits))
      back.still

  nothing_to_come : tally (λ e. true) (due_lines (input_of dispatch plant) front) ≡ 0
  nothing_to_come =
      omega (
        arith,
        rep.pending.counted (λ e. true),
        ap (count_by (λ (e : Event). true)) empty,
        count-gather_zero (λ e. true) (λ u. deferred_of plant u (state_of state.trains u).place (state_of state.trains u).deferred) (trains plant)
            (λ u lt. of u (state_of state.trains u).place (state_of state.trains u).deferred (λ a held. none_held u a lt held)),
      )
    where
      of : (u p : ℕ) (arrival : Option ℕ) → ((a : ℕ) → arrival ≡ Some a → ⊥) → count_by (λ e. true) (deferred_of plant u p arrival) ≡ 0
      of u p None none = refl
      of u p (Some a) none = absurd (none a refl)

  ends : Ends (input_of dispatch plant) front line
  ends = record {
    what = refl;
    now = rep.time;
    settled = settled_front dispatch plant front state rep going settled
        (not_from_false (list_any (λ (d : Entry). eqb d.at (instant front)) (due_lines (input_of dispatch plant) front)) (false_from_ne_true (list_any (λ (d : Entry). eqb d.at (instant front)) (due_lines (input_of dispatch plant) front)) (λ some.
        omega (arith, nothing_to_come, tally-some (λ d. eqb d.at (instant front)) (due_lines (input_of dispatch plant) front) some, tally-le (λ d. eqb d.at (instant front)) (λ e. true) (due_lines (input_of dispatch plant) front) (λ d h. refl)))));
    nothing_due = sym (tally_all (due_lines (input_of dispatch plant) front)) ∙ nothing_to_come;
    names = (bytes_decides (left_of dispatch plant front state.trains) (remaining (input_of dispatch plant) front)).1
        (filter_same (λ t. not ((state_of state.trains t).is_out || is_cancelled t (told dispatch.commands front)))
        (λ t. not (is_out front t || is_cancelled t (told dispatch.commands front))) (trains plant)
        (λ t lt. ap (λ b. not (b || is_cancelled t (told dispatch.commands front))) (rep.waiting.out t lt)));
  }

  pub follows : may_follow (input_of dispatch plant) front line ≡ true
  follows = follows_end (input_of dispatch plant) front line going ends

  pub end_lawful : is_lawful (input_of dispatch plant) (line ∷ front) ≡ true
  end_lawful = and_from (is_lawful (input_of dispatch plant) front) (may_follow (input_of dispatch plant) front line) lawful_now follows

  pub ended : (after : RunState) → IsEndLine state after → Represents dispatch plant (line ∷ front) after
  ended after has = record {
    accepted = rep.accepted;
    lawful = end_lawful;
    time = has.time;
    ended = has.ended;
    begun = λ none. absurd (omega (arith, ap length none));
    times = times_kept plant line front state.trains after.trains refl (ap length has.trains) (λ u lt. ap (λ states. (state_of states u).place) has.trains) (λ u lt. ap (λ states. (state_of states u).times) has.trains) rep.times;
    pending = record {
      counted = λ q.
          omega (
            arith,
            rep.pending.counted q,
            other_left (input_of dispatch plant) fine line front end_lawful refl refl refl (λ e. q (event_of e)) (λ at k. refl),
            ap (count_by q) has.events,
            ap (λ states. count_by q (Rattle.rail_state.specs.Representation.deferred_events plant states)) has.trains,
          );
      deferred = λ u at lt arrives. absurd (none_held u at lt (sym (ap (λ states. (state_of states u).deferred) has.trains) ∙ arrives));
      bound = λ u lt. subst (λ states. (state_of states u).deferred ≡ None → 0 < (state_of states u).place → (state_of states u).place < moves plant u → IsBound plant u (state_of states u)) (sym has.trains) (rep.pending.bound u lt);
    };
    heads = record {
      place_counts = λ u lt. subst (λ states. 0 < (state_of states u).head.place) (sym has.trains) (rep.heads.place_counts u lt);
      step_counts = λ u lt. subst (λ states. 0 < (state_of states u).head.step) (sym has.trains) (rep.heads.step_counts u lt);
      heads = λ u lt. subst (λ states. IsHead plant (line ∷ front) u ((state_of states u).head.place - 1) ((state_of states u).head.step - 1)) (sym has.trains)
          (head_kept (input_of dispatch plant) fine line front end_lawful u ((state_of state.trains u).head.place - 1) ((state_of state.trains u).head.step - 1) refl (rep.heads.heads u lt));
    };
    waiting = record {
      ready = λ u lt. ap (λ states. (state_of states u).waits) has.trains ∙ rep.waiting.ready u lt ∙ sym (ready_kept (input_of dispatch plant) line front end_lawful refl refl u (λ m same. false≢true (ap is_ready_line same)));
      told = λ u lt. ap (λ states. (state_of states u).last_hold) has.trains ∙ rep.waiting.told u lt ∙ sym (hold_kept line front u (suc (place front u)) refl);
      out = λ u lt. ap (λ states. (state_of states u).is_out) has.trains ∙ rep.waiting.out u lt ∙ sym (out_kept line front u refl);
    };
    holders = subst (AreHolders plant (line ∷ front)) (sym has.holders) (holders_kept (input_of dispatch plant) rep.accepted line front end_lawful refl (λ x u same. false≢true (ap is_free_line same)) state.holders rep.holders);
    known = record {
      cause = λ u c lt k.
          ap (λ h. seen_cause (input_of dispatch plant) (line ∷ front) h u) has.holders
          ∙ seen_kept dispatch plant line front state.holders u refl refl
          ∙ rep.known.cause u c lt (sym (ap (λ states. (state_of states u).known) has.trains) ∙ k);
      waits = λ u c lt k. ap (λ states. (state_of states u).waits) has.trains ∙ rep.known.waits u c lt (sym (ap (λ states. (state_of states u).known) has.trains) ∙ k);
      at_first_section = λ u c lt k. at_first_kept plant state.trains after.trains u c lt rep.known.at_first_section (sym (ap (λ states. (state_of states u).known) has.trains) ∙ k)
          (ap (λ states. (state_of states u).place) has.trains) (ap (λ states. (state_of states u).at_first) has.trains);
      no_more = λ held_now u lt waits. absurd (false≢true held_now);
    };
    settled = λ s u lt waits.
        let told = rep.settled settled u lt (sym (ap (λ states. (state_of states u).waits) has.trains) ∙ waits) in
        record {
          why = told.why;
          known = ap (λ states. (state_of states u).known) has.trains ∙ told.known;
          told = ap (λ states. (state_of states u).last_hold) has.trains ∙ told.told;
        };
  }
