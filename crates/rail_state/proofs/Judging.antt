-- An admission is judged by what is kept.
use Rattle.std.proofs.Common.{◌≡◌, ℕ, suc, Bool, true, false, not, ◌&&◌, eqb, List, [], ◌∷◌, length, Option, Some, None, is_some, refl, sym, ap, ◌∙◌, subst, ⊎_elim, arith}
use Rattle.std.specs.List.{list_any}
use Rattle.std.proofs.lemmas.Bool.{and_parts, and_right, cases_Bool, cases_lt, eqb-true, eq-eqb, false≢true, not_from_true}
use Rattle.std.proofs.lemmas.List.{get_or_past}
use Rattle.std.proofs.lemmas.Option.{none-some}
use Rattle.rail_base.specs.declared.history.Entry.{Entry}
use Rattle.rail_base.specs.declared.history.What.TheVariants.{Admit}
use Rattle.rail_base.specs.declared.history.Note.{Note}
use Rattle.rail_laws_step.specs.HolderTables.{own_overlap}
use Rattle.rail_rules.specs.Places.{after, completes}
use Rattle.rail_rules.specs.Plant.{Plant, moves_of, claimed, trains}
use Rattle.rail_rules.specs.Fronts.{Front, Line, has_ended, has_held, instant, kept, kept_after, places}
use Rattle.rail_rules.specs.Orders.{told, Dispatch, input_of}
use Rattle.rail_rules.specs.Events.{due_lines, is_quiet}
use Rattle.rail_rules.specs.Causes.{bar, is_deciding, is_ready, place, places_after, waits}
use Rattle.rail_rules.specs.Lawful.{may_follow, may_follow_as, note_fits}
use Rattle.rail_laws_front.proofs.CallerLemmas.{never_goes}
use Rattle.rail_laws_events.proofs.CallerLemmas.{some-tally, tally-le, tally-some}
use Rattle.rail_state.specs.SeenCauses.{seen_bar}
use Rattle.rail_queue.specs.declared.event.Event.{Event}
use Rattle.rail_queue.specs.Order.{first_time_of, goes_before, is_sorted}
use Rattle.rail_state.specs.Events.{event_of}
use Rattle.rail_state.specs.TrainStates.{no_state, state_of}
use Rattle.rail_state.specs.Representation.{Represents, is_due_now, may_admit_by}
use Rattle.rail_state.proofs.EventCodes.{one_event, same_event}
use Rattle.rail_state.proofs.LineCodes.{event_time}
use Rattle.rail_state.proofs.Deciding.{deciding, first_least}
use Rattle.rail_state.proofs.Next.{some_due}
use Rattle.rail_state.proofs.Settling.{bar_seen}
use Rattle.rail_state.specs.declared.run_state.RunState.{RunState}

and_same : (a b c d : Bool) → a ≡ b → (b ≡ true → c ≡ d) → (a && c) ≡ (b && d)
and_same a true c d first second = ap (λ x. x && c) first ∙ second refl
and_same a false c d first second = ap (λ x. x && c) first

abbrev in_it : Option ℕ → ℕ
in_it None = 0
in_it (Some x) = x

module _ (dispatch : Dispatch) (plant : Plant) (front : Front) (state : RunState) (rep : Represents dispatch plant front state) (going : has_ended front ≡ false) (sorted : is_sorted state.queue.events ≡ true) where
  -- a pending event at the instant is due there
  due_there : (event : Event) (rest : List Event) → state.queue.events ≡ event ∷ rest → event.at ≡ state.instant → is_quiet (due_lines (input_of dispatch plant) front) (instant front) ≡ false
  due_there event rest first at =
      let least : list_any (λ other. goes_before other event) state.queue.events ≡ false = ap (list_any (λ other. goes_before other event)) first ∙ first_least event rest (ap is_sorted (sym first) ∙ sorted) in
      let there : Entry → Bool = λ d. eqb d.at (instant front) in
      let some = tally-some (λ d. same_event event (event_of d)) (due_lines (input_of dispatch plant) front) (some_due dispatch plant front state rep event rest first least) in
      let all = tally-le (λ d. same_event event (event_of d)) there (due_lines (input_of dispatch plant) front) (λ d same. eq-eqb d.at (instant front) (omega (arith, ap (λ (e : Event). e.at) (one_event event (event_of d) same), event_time d, at, rep.time))) in
      not_from_true (list_any there (due_lines (input_of dispatch plant) front)) (some-tally there (due_lines (input_of dispatch plant) front) (omega (arith, some, all)))

  pub deciding_is : (line : Line) (before : Front) → front ≡ line ∷ before → is_deciding (input_of dispatch plant) front ≡ not (is_due_now state)
  deciding_is line before is = of state.queue.events refl
    where
      some_lines : front ≡ [] → ⊥
      some_lines none = omega (arith, ap (length {A = Line}) (sym is ∙ none))

      of : (events : List Event) → state.queue.events ≡ events → is_deciding (input_of dispatch plant) front ≡ not (is_due_now state)
      of [] empty =
          deciding dispatch plant front state rep going sorted (λ now. none-some state.instant (sym (ap first_time_of empty) ∙ now)) some_lines
          ∙ sym (ap (λ o. not (Rattle.std.specs.Option.option_map_or (λ (at : ℕ). eqb at state.instant) o false)) (ap first_time_of empty))
      of (event ∷ rest) first =
          let now_is : is_due_now state ≡ eqb event.at state.instant = ap (λ es. Rattle.std.specs.Option.option_map_or (λ (at : ℕ). eqb at state.instant) (first_time_of es) false) first in
          ⊎_elim
          (λ here.
          let P : Front → Type 0 = λ f. is_quiet (due_lines (input_of dispatch plant) f) (instant f) ≡ false in
          let quiet = subst P is (due_there event rest first (eqb-true event.at state.instant here)) in
          ap (is_deciding (input_of dispatch plant)) is ∙ and_right (not (has_ended (line ∷ before))) (is_quiet (due_lines (input_of dispatch plant) (line ∷ before)) line.entry.at) quiet
          ∙ sym (ap not (now_is ∙ here)))
          (λ later.
          deciding dispatch plant front state rep going sorted (λ now. false≢true (sym later ∙ eq-eqb event.at state.instant (some_is (ap first_time_of (sym first) ∙ now)))) some_lines
          ∙ sym (ap not (now_is ∙ later)))
          (cases_Bool (eqb event.at state.instant))
        where
          some_is : {x y : ℕ} → Some x ≡ Some y → x ≡ y
          some_is e = ap in_it e

  ready_is : (t : ℕ) → is_ready (input_of dispatch plant) front t ≡ (state_of state.trains t).waits
  ready_is t =
      ⊎_elim
      (λ known. sym (rep.waiting.ready t known))
      (λ past. never_goes (input_of dispatch plant) front t past ∙ sym (ap (λ r. r.waits) (get_or_past state.trains t no_state (omega (arith, past, rep.times.many)))))
      (cases_lt t (trains plant))

  pub waits_is : (t : ℕ) → waits (input_of dispatch plant) front t ≡ (not (is_due_now state) && (state_of state.trains t).waits)
  waits_is t = of front refl
    where
      of : (f : Front) → front ≡ f → waits (input_of dispatch plant) front t ≡ (not (is_due_now state) && (state_of state.trains t).waits)
      of [] is =
          let unready : is_ready (input_of dispatch plant) front t ≡ false = ap (λ f. is_ready (input_of dispatch plant) f t) is ∙ and_right _ false refl in
          and_right (is_deciding (input_of dispatch plant) front) (is_ready (input_of dispatch plant) front t) unready
          ∙ sym (and_right (not (is_due_now state)) (state_of state.trains t).waits (sym (ready_is t) ∙ unready))
      of (line ∷ before) is =
          let first = deciding_is line before is in
          let second = ready_is t in
          λ i. first i && second i

  pub judged : (line : Line) (t m : ℕ) (note : Note) → line.entry.what ≡ Admit t m note → (after_hold : Bool) → after_hold ≡ has_held front
      → may_follow (input_of dispatch plant) front line ≡ may_admit_by plant (told dispatch.commands front) state after_hold (places plant front) (kept_after plant (kept plant front) line (Admit t m note)) line t m note
  judged line t m note what after_hold after_hold_is =
      let input = input_of dispatch plant in
      let now : Bool = eqb line.entry.at (instant front) in
      let w : Bool = waits input front t in
      let train_state = state_of state.trains t in
      let list : List ℕ = kept_after plant (kept plant front) line (Admit t m note) in
      ap (λ b. not b && may_follow_as input front line line.entry.what) going
      ∙ ap (may_follow_as input front line) what
      ∙ and_same (now && w && not (is_some (bar input front t)) && eqb m (suc (place front t)) && not (has_held front) && note_fits line (place front t) note) _
      (completes (moves_of plant) (places_after input front t) (kept plant (line ∷ front))) (completes (moves_of plant) (after (places plant front) t) list)
      (and_same (now && w && not (is_some (bar input front t)) && eqb m (suc (place front t)) && not (has_held front)) _ (note_fits line (place front t) note) (note_fits line train_state.place note)
      (and_same (now && w && not (is_some (bar input front t)) && eqb m (suc (place front t))) _ (not (has_held front)) (not after_hold)
      (and_same (now && w && not (is_some (bar input front t))) _ (eqb m (suc (place front t))) (eqb m (suc train_state.place))
      (and_same (now && w) _ (not (is_some (bar input front t))) (not (is_some (seen_bar (told dispatch.commands front) state.holders t (own_overlap plant t train_state.place) (claimed plant t train_state.place))))
      (and_same now (eqb line.entry.at state.instant) w (not (is_due_now state) && train_state.waits) (ap (eqb line.entry.at) (sym rep.time)) (λ _. waits_is t))
      (λ both. ap (λ c. not (is_some c)) (bar_seen dispatch plant front state rep (decides both) t ∙ ap (λ p. seen_bar (told dispatch.commands front) state.holders t (own_overlap plant t p) (claimed plant t p)) (sym (place_is both)))))
      (λ three. ap (λ p. eqb m (suc p)) (sym (place_is (and_parts _ _ three).0))))
      (λ _. ap not (sym after_hold_is)))
      (λ five. ap (λ p. note_fits line p note) (sym (place_is (and_parts _ _ (and_parts _ _ (and_parts _ _ five).0).0).0))))
      (λ _. ap (λ w'. completes (moves_of plant) (after (places plant front) t) (kept_after plant (kept plant front) line w')) what)
    where
      both_of : (eqb line.entry.at state.instant && (not (is_due_now state) && (state_of state.trains t).waits)) ≡ true → waits (input_of dispatch plant) front t ≡ true
      both_of both = waits_is t ∙ (and_parts (eqb line.entry.at state.instant) (not (is_due_now state) && (state_of state.trains t).waits) both).1

      decides : (eqb line.entry.at state.instant && (not (is_due_now state) && (state_of state.trains t).waits)) ≡ true → is_deciding (input_of dispatch plant) front ≡ true
      decides both = (and_parts (is_deciding (input_of dispatch plant) front) (is_ready (input_of dispatch plant) front t) (both_of both)).0

      place_is : (eqb line.entry.at state.instant && (not (is_due_now state) && (state_of state.trains t).waits)) ≡ true → (state_of state.trains t).place ≡ place front t
      place_is both =
          let ready = (and_parts (is_deciding (input_of dispatch plant) front) (is_ready (input_of dispatch plant) front t) (both_of both)).1 in
          ⊎_elim
          (λ known. rep.times.places t known)
          (λ past. absurd (false≢true (sym (never_goes (input_of dispatch plant) front t past) ∙ ready)))
          (cases_lt t (trains plant))
