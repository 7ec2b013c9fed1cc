-- A command is told: the run then stands for the front with its line.
use Rattle.std.proofs.Common.{◌≡◌, ℕ, zero, suc, ◌+◌, ◌-◌, ◌<◌, ◌≤◌, Bool, true, false, not, ◌&&◌, cond, List, ◌∷◌, length, Option, Some, None, refl, sym, ap, ◌∙◌, subst, ◌⊎◌, inl, inr, ⊎_elim, arith}
use Rattle.std.specs.Prelude.{count_by, slice_get}
use Rattle.std.specs.List.{filter, list_any}
use Rattle.std.proofs.lemmas.Bool.{and_parts, and_from, cases_Bool, cases_lt, false≢true, or_parts, cond-true, cond-false, not_from_false, not-true, eqb-true, eq-eqb, le-ltb, ne_eqb, false_from_ne_true}
use Rattle.std.proofs.lemmas.Option.{none-some}
use Rattle.rail_base.specs.declared.history.Entry.{Entry}
use Rattle.rail_base.specs.declared.history.Cause.{Cause}
use Rattle.rail_base.specs.declared.history.What.{What}
use Rattle.rail_base.specs.declared.history.What.TheVariants.{Free, Arrive, Enter, Out, Ready, Told, Untold, Admit, Hold, End}
use Rattle.rail_base.specs.declared.orders.Command.{Command}
use Rattle.rail_base.specs.declared.orders.Order.{Order}
use Rattle.rail_rules.specs.Numbers.{comes_before, gather}
use Rattle.rail_rules.specs.Plant.{Plant, is_forced, moves, claimed, trains}
use Rattle.rail_rules.specs.Times.{stop_time}
use Rattle.rail_rules.specs.Fronts.{Front, Line, admissions, has_ended, instant, is_admission, is_hold, rank, same_entry, stands}
use Rattle.rail_rules.specs.Orders.{is_cancelled, orders_of, takes_effect, told, Dispatch, input_of}
use Rattle.rail_rules.specs.Events.{command_line, due_lines, is_least}
use Rattle.rail_rules.specs.Causes.{is_settled, last_hold, place}
use Rattle.rail_rules.specs.Lawful.{is_lawful, is_out, may_follow}
use Rattle.rail_laws_front.specs.Premises.{IsWellFormed}
use Rattle.rail_laws_front.specs.Views.{Happens}
use Rattle.rail_laws_front.specs.EventLines.{IsEvent}
use Rattle.rail_laws_front.specs.EventLines.IsEvent.{entering, arriving, freeing, leaving, readying}
use Rattle.rail_laws_front.proofs.CallerLemmas.{IsCommandDue, IsEventDue, due_found, well_formed_from_accepted, append_none}
use Rattle.rail_laws_events.proofs.CallerLemmas.{one_entry}
use Rattle.rail_rules.specs.LineCounts.{is_command}
use Rattle.rail_laws_step.specs.HolderTables.{AreHolders}
use Rattle.rail_laws_step.proofs.CallerLemmas.{kept as kept_holders, head_kept, unheld, out_kept, happens_follows, command_idle}
use Rattle.rail_laws_step.specs.Heads.{IsHead}
use Rattle.rail_queue.specs.declared.event.Event.{Event}
use Rattle.rail_queue.specs.declared.event.Class.TheVariants as class
use Rattle.rail_queue.specs.Order.{class_number, goes_before}
use Rattle.rail_state.specs.Events.{deferred_of, event_of, section_event, train_event}
use Rattle.rail_state.specs.SeenCauses.{AreDue, is_uncancelled, seen_cause}
use Rattle.rail_state.proofs.Least.{first_is_least}
use Rattle.rail_state.proofs.FreeEvents.{deferred_behind, deferred_none}
use Rattle.rail_state.proofs.Taking.{command_taken, uncancelled_other}
use Rattle.rail_state.proofs.Ceasing.{ceases}
use Rattle.rail_state.proofs.Touching.{causes_left}
use Rattle.rail_state.specs.declared.train.TrainState.{TrainState}
use Rattle.rail_state.specs.TrainStates.{state_of}
use Rattle.rail_state.specs.TrainStates.{is_touched}
use Rattle.rail_state.specs.Representation.{HasTold, IsBound, Represents, bare_at, deferred_events}
use Rattle.rail_state.proofs.FirstSections.{at_first_kept}
use Rattle.rail_state.proofs.Pending.{held_same}
use Rattle.rail_state.proofs.Times.{times_kept}
use Rattle.rail_state.specs.declared.run_state.RunState.{RunState}

-- of a command
module _ (dispatch : Dispatch) (plant : Plant) (front : Front) (state : RunState) (rep : Represents dispatch plant front state) (going : has_ended front ≡ false) (event : Event)
    (after : RunState) (k : ℕ) (command : Command) (listed : slice_get dispatch.commands k ≡ Some command) (classed : event.class ≡ class.Command) (numbered : event.number ≡ suc k)
    (least : list_any (λ other. goes_before other event) state.queue.events ≡ false) (held_later : (t at : ℕ) → t < trains plant → (state_of state.trains t).deferred ≡ Some at → event.at < at) (goes : (state.is_settled ≡ true) ⊎ (event.at ≡ state.instant))
    (settled_now : state.is_settled ≡ true → instant front < event.at → is_settled (input_of dispatch plant) front ≡ true) (past : instant front ≤ event.at) where
  abbrev orders : List Order
  orders = orders_of dispatch.commands (command_line (input_of dispatch plant) front command k).what

  abbrev line : Line
  line = bare_at event.at (command_line (input_of dispatch plant) front command k).what

  fine : IsWellFormed plant
  fine = well_formed_from_accepted plant rep.accepted

  kind : is_command (command_line (input_of dispatch plant) front command k).what ≡ true
  kind = of (takes_effect (input_of dispatch plant) front (told dispatch.commands front) command.what)
    where
      of : (b : Bool) → is_command (cond b (Told (suc k)) (Untold (suc k))) ≡ true
      of true = refl
      of false = refl

  idle : is_admission (command_line (input_of dispatch plant) front command k).what ≡ false
  idle = command_idle (command_line (input_of dispatch plant) front command k).what kind

  no_hold : is_hold (command_line (input_of dispatch plant) front command k).what ≡ false
  no_hold = of (takes_effect (input_of dispatch plant) front (told dispatch.commands front) command.what)
    where
      of : (b : Bool) → is_hold (cond b (Told (suc k)) (Untold (suc k))) ≡ false
      of true = refl
      of false = refl

  -- no arrival that is deferred goes before the event
  held_behind : list_any (λ other. goes_before other event) (deferred_events plant state.trains) ≡ false
  held_behind = of (trains plant) (λ t lt. lt)
    where
      of : (n : ℕ) → ((t : ℕ) → t < n → t < trains plant) → list_any (λ other. goes_before other event) (gather (λ t. deferred_of plant t (state_of state.trains t).place (state_of state.trains t).deferred) n) ≡ false
      of zero within = refl
      of (suc n) within =
          append_none (λ other. goes_before other event) (gather (λ t. deferred_of plant t (state_of state.trains t).place (state_of state.trains t).deferred) n) (deferred_of plant n (state_of state.trains n).place (state_of state.trains n).deferred)
          (of n (λ t lt. within t (omega (arith, lt))))
          (deferred_behind plant event n (state_of state.trains n).place (state_of state.trains n).deferred (λ at is. held_later n at (within n (omega arith)) is))

  -- no order takes an arrival out of what is deferred
  deferred_uncancelled : (tells : List Order) → list_any (λ other. not (is_uncancelled tells other)) (deferred_events plant state.trains) ≡ false
  deferred_uncancelled tells = of (trains plant)
    where
      one : (t m : ℕ) (arrival : Option ℕ) → list_any (λ other. not (is_uncancelled tells other)) (deferred_of plant t m arrival) ≡ false
      one t m arrival = deferred_none (λ other. not (is_uncancelled tells other)) plant t m arrival
          (λ at is. (ap not (uncancelled_other tells (train_event at class.Arrive t m) (λ u. refl)), λ x. ap not (uncancelled_other tells (section_event (at + plant.tables.overlap_time) x t) (λ u. refl))))

      of : (n : ℕ) → list_any (λ other. not (is_uncancelled tells other)) (gather (λ t. deferred_of plant t (state_of state.trains t).place (state_of state.trains t).deferred) n) ≡ false
      of zero = refl
      of (suc n) =
          append_none (λ other. not (is_uncancelled tells other)) (gather (λ t. deferred_of plant t (state_of state.trains t).place (state_of state.trains t).deferred) n) (deferred_of plant n (state_of state.trains n).place (state_of state.trains n).deferred)
          (of n) (one n (state_of state.trains n).place (state_of state.trains n).deferred)

  module _ (rest : List Event) (first : state.queue.events ≡ event ∷ rest) where
    found : (e : Entry) × (event_of e ≡ event) × (is_least (due_lines (input_of dispatch plant) front) e ≡ true)
    found = first_is_least (input_of dispatch plant) front state.queue.events (deferred_events plant state.trains) rep.pending.counted event rest first least held_behind

    -- the least due line is that of the command
    is_its_line : found.0 ≡ line.entry
    is_its_line = ⊎_elim of_train of_command (due_found (input_of dispatch plant) front (same_entry found.0) (and_parts (list_any (same_entry found.0) (due_lines (input_of dispatch plant) front)) _ found.2).0)
      where
        class_of : (event_of found.0).class ≡ class.Command
        class_of = ap (λ (x : Event). x.class) found.1 ∙ classed

        no_train : (t : ℕ) (c : Bool) (x : Entry) → IsEvent plant t (admissions front t) c x → class_number (event_of x).class ≡ 5 → ⊥
        no_train t c x (entering m j lm lj is) n = absurd (omega (arith, sym n ∙ ap (λ (y : Entry). class_number (event_of y).class) is))
        no_train t c x (arriving m lm is) n = absurd (omega (arith, sym n ∙ ap (λ (y : Entry). class_number (event_of y).class) is))
        no_train t c x (freeing m j lm lj closed is) n = absurd (omega (arith, sym n ∙ ap (λ (y : Entry). class_number (event_of y).class) is))
        no_train t c x (leaving m lm last is) n = absurd (omega (arith, sym n ∙ ap (λ (y : Entry). class_number (event_of y).class) is))
        no_train t c x (readying m lm left running is) n = absurd (omega (arith, sym n ∙ ap (λ (y : Entry). class_number (event_of y).class) is))

        of_train : IsEventDue (input_of dispatch plant) front (same_entry found.0) → found.0 ≡ line.entry
        of_train due = absurd (no_train due.train (is_cancelled due.train (told dispatch.commands front)) due.entry due.event (ap (λ (x : Entry). class_number (event_of x).class) (sym (one_entry found.0 due.entry due.passing)) ∙ ap class_number class_of))

        number_of : (b : Bool) (at n : ℕ) → (event_of (record { at = at; what = cond b (Told n) (Untold n) })).number ≡ n
        number_of true at n = refl
        number_of false at n = refl

        time_of : (b : Bool) (at n : ℕ) → (event_of (record { at = at; what = cond b (Told n) (Untold n) })).at ≡ at
        time_of true at n = refl
        time_of false at n = refl

        some_one : (a b : Command) → Some a ≡ Some b → a ≡ b
        some_one a b h = cc

        of_command : IsCommandDue (input_of dispatch plant) front (input_of dispatch plant).commands 0 (same_entry found.0) → found.0 ≡ line.entry
        of_command due =
            let is : found.0 ≡ command_line (input_of dispatch plant) front due.command (0 + due.index) = one_entry found.0 (command_line (input_of dispatch plant) front due.command (0 + due.index)) due.passing in
            let effect : Bool = takes_effect (input_of dispatch plant) front (told dispatch.commands front) due.command.what in
            let number : suc (0 + due.index) ≡ suc k = sym (number_of effect due.command.at (suc (0 + due.index))) ∙ ap (λ (x : Entry). (event_of x).number) (sym is) ∙ ap (λ (x : Event). x.number) found.1 ∙ numbered in
            let at_k : due.index ≡ k = omega (arith, number) in
            let whole : 0 + due.index ≡ k = omega (arith, number) in
            let same : due.command ≡ command = some_one due.command command (sym due.listed ∙ ap (slice_get dispatch.commands) at_k ∙ listed) in
            let line_is : found.0 ≡ command_line (input_of dispatch plant) front command k = is ∙ (λ i. command_line (input_of dispatch plant) front (same i) (whole i)) in
            let time : event.at ≡ command.at =
            ap (λ (x : Event). x.at) (sym found.1) ∙ ap (λ (x : Entry). (event_of x).at) line_is ∙ time_of (takes_effect (input_of dispatch plant) front (told dispatch.commands front) command.what) command.at (suc k) in
            line_is ∙ (λ i. record { at = sym time i; what = (command_line (input_of dispatch plant) front command k).what })

    is_due : is_least (due_lines (input_of dispatch plant) front) line.entry ≡ true
    is_due = subst (λ x. is_least (due_lines (input_of dispatch plant) front) x ≡ true) is_its_line found.2

    happens : Happens (input_of dispatch plant) front line
    happens =
        let both = and_parts (list_any (same_entry line.entry) (due_lines (input_of dispatch plant) front)) (not (list_any (λ d. comes_before (rank d) (rank line.entry)) (due_lines (input_of dispatch plant) front))) is_due in
        record {
          event = event_kind (command_line (input_of dispatch plant) front command k).what kind;
          bare = refl;
          due = both.0;
          least = not-true (list_any (λ d. comes_before (rank d) (rank line.entry)) (due_lines (input_of dispatch plant) front)) both.1;
          when = ⊎_elim
              (λ settled. ⊎_elim (λ later. inr (settled_now settled later)) (λ at_once. inl (omega (arith, at_once, past))) (cases_lt (instant front) event.at))
              (λ same. inl (same ∙ rep.time))
              goes;
        }
      where
        event_kind : (w : What) → is_command w ≡ true → Rattle.rail_laws_front.specs.Views.is_event w ≡ true
        event_kind (Told n) h = refl
        event_kind (Untold n) h = refl
        event_kind (Free x t) h = refl
        event_kind (Arrive t m) h = refl
        event_kind (Enter t m x) h = refl
        event_kind (Out t) h = refl
        event_kind (Ready t m) h = refl
        event_kind (Admit t m note) h = absurd (false≢true h)
        event_kind (Hold t m why) h = absurd (false≢true h)
        event_kind End h = absurd (false≢true h)

    follows : may_follow (input_of dispatch plant) front line ≡ true
    follows = happens_follows (input_of dispatch plant) front line going happens

    pub lawful_now : is_lawful (input_of dispatch plant) (line ∷ front) ≡ true
    lawful_now = and_from (is_lawful (input_of dispatch plant) front) (may_follow (input_of dispatch plant) front line) rep.lawful follows

  module _ (has : HasTold plant (orders_of dispatch.commands (command_line (input_of dispatch plant) front command k).what) event state after) where
    lawful_line : is_lawful (input_of dispatch plant) (line ∷ front) ≡ true
    lawful_line = lawful_now has.rest has.first

    same_part : {B : Type 0} (part : TrainState → B) → ((r : TrainState) (known : Option Cause) (waits : Bool) → part (record r { known = known; waits = waits }) ≡ part r) → (t : ℕ) → t < trains plant → part (state_of after.trains t) ≡ part (state_of state.trains t)
    same_part part same t lt = ap part (has.trains t lt) ∙ same (state_of state.trains t) _ _

    waits_is : (t : ℕ) → t < trains plant → (state_of after.trains t).waits ≡ (not (is_cancelled t orders) && (state_of state.trains t).waits)
    waits_is t lt = ap (λ (r : TrainState). r.waits) (has.trains t lt)

    waited : (t : ℕ) → t < trains plant → (state_of after.trains t).waits ≡ true → (state_of state.trains t).waits ≡ true
    waited t lt waits = (and_parts (not (is_cancelled t orders)) (state_of state.trains t).waits (sym (waits_is t lt) ∙ waits)).1

    -- a cause that is still known was so before, and no order touches its train
    still_known : (t : ℕ) (why : Cause) → t < trains plant → (state_of after.trains t).known ≡ Some why → ((state_of state.trains t).known ≡ Some why) × (is_touched plant orders t (state_of state.trains t) ≡ false)
    still_known t why lt known =
        let is : cond (is_touched plant orders t (state_of state.trains t)) None (state_of state.trains t).known ≡ Some why = sym (ap (λ (r : TrainState). r.known) (has.trains t lt)) ∙ known in
        ⊎_elim
        (λ touched. absurd (none-some why (sym (cond-true (is_touched plant orders t (state_of state.trains t)) None (state_of state.trains t).known touched) ∙ is)))
        (λ apart. (sym (cond-false (is_touched plant orders t (state_of state.trains t)) None (state_of state.trains t).known apart) ∙ is, apart))
        (cases_Bool (is_touched plant orders t (state_of state.trains t)))

    pub told_after : Represents dispatch plant (line ∷ front) after
    told_after = record {
      accepted = rep.accepted;
      lawful = lawful_line;
      time = has.time;
      ended = has.going ∙ rep.ended ∙ going ∙ sym (ends_nothing (takes_effect (input_of dispatch plant) front (told dispatch.commands front) command.what));
      begun = λ none. absurd (omega (arith, ap length none));
      times = times_kept plant line front state.trains after.trains idle has.many (same_part (λ r. r.place) (λ r c w. refl)) (same_part (λ r. r.times) (λ r c w. refl)) rep.times;
      pending = record {
        counted = λ q.
            ap (λ es. count_by q es + count_by q (deferred_events plant after.trains)) has.events
            ∙ ap (λ es. count_by q (filter (is_uncancelled orders) has.rest) + count_by q es) (held_same plant state.trains after.trains (same_part (λ r. r.place) (λ r c w. refl)) (same_part (λ r. r.deferred) (λ r c w. refl)))
            ∙ command_taken (input_of dispatch plant) fine line front lawful_line kind state.queue.events has.rest (deferred_events plant state.trains) rep.pending.counted
            (has.first ∙ ap (λ e. e ∷ has.rest) (sym (ap event_of (sym (is_its_line has.rest has.first)) ∙ (found has.rest has.first).1))) (deferred_uncancelled orders) q;
        deferred = λ t at lt arrives.
            let back = rep.pending.deferred t at lt (sym (same_part (λ r. r.deferred) (λ r c w. refl) t lt) ∙ arrives) in
            let place_same = same_part (λ r. r.place) (λ r c w. refl) t lt in
            let times_same = same_part (λ r. r.times) (λ r c w. refl) t lt in
            record {
              begun = omega (arith, back.begun, place_same);
              left = omega (arith, back.left, place_same);
              unforced = ap (is_forced plant t) place_same ∙ back.unforced;
              stops = back.stops ∙ sym (ap (λ ts. stop_time plant t ts.free_run) times_same);
              early = subst (λ n. n < at) (sym (ap (λ ts. ts.next_ready) times_same)) back.early;
              still = ⊎_elim
                  (λ unready. inl (waits_is t lt ∙ Rattle.std.proofs.lemmas.Bool.and_right (not (is_cancelled t orders)) (state_of state.trains t).waits unready))
                  (λ now_ready. ⊎_elim
                  (λ settled. ⊎_elim
                  (λ waits. let told_it = rep.settled settled t lt waits in absurd (none-some told_it.why (sym now_ready.1 ∙ told_it.told)))
                  (λ unready. inl (waits_is t lt ∙ Rattle.std.proofs.lemmas.Bool.and_right (not (is_cancelled t orders)) (state_of state.trains t).waits unready))
                  (cases_Bool (state_of state.trains t).waits))
                  (λ same. inr (ap (λ ts. ts.next_ready) times_same ∙ now_ready.0 ∙ sym rep.time ∙ sym same, same_part (λ r. r.last_hold) (λ r c w. refl) t lt ∙ now_ready.1))
                  goes)
                  back.still;
            };
        bound = λ t lt none some left.
            subst (λ (r : TrainState). IsBound plant t r) (sym (has.trains t lt))
            (rep.pending.bound t lt (sym (same_part (λ r. r.deferred) (λ r c w. refl) t lt) ∙ none) (subst (λ n. 0 < n) (same_part (λ r. r.place) (λ r c w. refl) t lt) some) (subst (λ n. n < moves plant t) (same_part (λ r. r.place) (λ r c w. refl) t lt) left));
      };
      heads = record {
        place_counts = λ t lt. subst (λ h. 0 < h.place) (sym (same_part (λ r. r.head) (λ r c w. refl) t lt)) (rep.heads.place_counts t lt);
        step_counts = λ t lt. subst (λ h. 0 < h.step) (sym (same_part (λ r. r.head) (λ r c w. refl) t lt)) (rep.heads.step_counts t lt);
        heads = λ t lt. subst (λ h. IsHead plant (line ∷ front) t (h.place - 1) (h.step - 1)) (sym (same_part (λ r. r.head) (λ r c w. refl) t lt))
            (head_kept (input_of dispatch plant) fine line front lawful_line t ((state_of state.trains t).head.place - 1) ((state_of state.trains t).head.step - 1) (enters_nothing t (takes_effect (input_of dispatch plant) front (told dispatch.commands front) command.what)) (rep.heads.heads t lt));
      };
      waiting = record {
        ready = λ t lt. waits_is t lt ∙ ap (λ b. not (is_cancelled t orders) && b) (rep.waiting.ready t lt) ∙ sym (ceases (input_of dispatch plant) line front t kind);
        told = λ t lt.
            same_part (λ r. r.last_hold) (λ r c w. refl) t lt ∙ rep.waiting.told t lt
            ∙ sym (unheld line front t (suc (place front t)) no_hold)
            ∙ sym (ap (λ p. last_hold (line ∷ front) t (suc p)) (Rattle.rail_state.proofs.Times.place_kept line front t idle));
        out = λ t lt. same_part (λ r. r.is_out) (λ r c w. refl) t lt ∙ rep.waiting.out t lt ∙ sym (out_kept line front t (outs_nothing t (takes_effect (input_of dispatch plant) front (told dispatch.commands front) command.what)));
      };
      holders = subst (AreHolders plant (line ∷ front)) (sym has.holders) (kept_holders plant line front idle (frees_nothing (takes_effect (input_of dispatch plant) front (told dispatch.commands front) command.what)) state.holders rep.holders);
      known = record {
        cause = λ t why lt known.
            let before = still_known t why lt known in
            let apart = or_parts (is_cancelled t orders) (list_any (λ order. Rattle.rail_state.specs.SeenCauses.touches order t (claimed plant t (state_of state.trains t).place)) orders) before.1 in
            ap (λ h. seen_cause (input_of dispatch plant) (line ∷ front) h t) has.holders
            ∙ causes_left (input_of dispatch plant) line front kind state.holders t (subst (λ p. list_any (λ order. Rattle.rail_state.specs.SeenCauses.touches order t (claimed plant t p)) orders ≡ false) (rep.times.places t lt) apart.1)
            ∙ rep.known.cause t why lt before.0;
        waits = λ t why lt known.
            let before = still_known t why lt known in
            let apart = or_parts (is_cancelled t orders) (list_any (λ order. Rattle.rail_state.specs.SeenCauses.touches order t (claimed plant t (state_of state.trains t).place)) orders) before.1 in
            waits_is t lt ∙ and_from (not (is_cancelled t orders)) (state_of state.trains t).waits (not_from_false (is_cancelled t orders) apart.0) (rep.known.waits t why lt before.0);
        at_first_section = λ t why lt known. at_first_kept plant state.trains after.trains t why lt rep.known.at_first_section (still_known t why lt known).0 (same_part (λ r. r.place) (λ r c w. refl) t lt) (same_part (λ r. r.at_first) (λ r c w. refl) t lt);
        no_more = λ held. absurd (false≢true (sym no_hold ∙ held));
      };
      settled = λ settled t lt waits.
          let both = has.settled settled in
          let told_it = rep.settled both.0 t lt (waited t lt waits) in
          record {
            why = told_it.why;
            known = ap (λ (r : TrainState). r.known) (has.trains t lt) ∙ cond-false (is_touched plant orders t (state_of state.trains t)) None (state_of state.trains t).known (both.1 t lt waits) ∙ told_it.known;
            told = same_part (λ r. r.last_hold) (λ r c w. refl) t lt ∙ told_it.told;
          };
    }
      where
        ends_nothing : (b : Bool) → Rattle.rail_rules.specs.Fronts.is_end (cond b (Told (suc k)) (Untold (suc k))) ≡ false
        ends_nothing true = refl
        ends_nothing false = refl

        enters_nothing : (t : ℕ) (b : Bool) → Rattle.rail_laws_step.specs.Heads.enters t (cond b (Told (suc k)) (Untold (suc k))) ≡ false
        enters_nothing t true = refl
        enters_nothing t false = refl

        outs_nothing : (t : ℕ) (b : Bool) → Rattle.rail_rules.specs.Lawful.is_out_line t (cond b (Told (suc k)) (Untold (suc k))) ≡ false
        outs_nothing t true = refl
        outs_nothing t false = refl

        frees_nothing : (b : Bool) (x t : ℕ) → cond b (Told (suc k)) (Untold (suc k)) ≡ Free x t → ⊥
        frees_nothing true x t h = cc
        frees_nothing false x t h = cc
