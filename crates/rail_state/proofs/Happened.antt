-- The first pending event happens: the run then stands for the front with its line.
use Rattle.std.proofs.Common.{◌≡◌, ℕ, suc, ◌+◌, ◌-◌, ◌<◌, ◌≤◌, Bool, true, false, not, ◌&&◌, List, [], ◌∷◌, length, drop, refl, sym, ap, ◌∙◌, subst, ◌⊎◌, inl, inr, ⊎_elim, arith}
use Rattle.std.specs.Prelude.{count_by, nat_lt}
use Rattle.std.specs.List.{list_any}
use Rattle.std.proofs.lemmas.Bool.{and_parts, and_from, cases_lt, eqb-true, eq-eqb, false≢true, not-true, ltb-true}
use Rattle.rail_base.specs.declared.history.Entry.{Entry}
use Rattle.rail_base.specs.declared.history.What.{What}
use Rattle.rail_base.specs.declared.history.What.TheVariants.{Free, Arrive, Enter, Out, Ready, Told, Untold, Admit, Hold, End}
use Rattle.rail_rules.specs.Numbers.{comes_before}
use Rattle.rail_rules.specs.Plant.{Plant, trains, step_section, steps}
use Rattle.rail_rules.specs.Fronts.{Front, Line, admissions, has_ended, instant, is_admission, is_end, rank, same_entry, stands}
use Rattle.rail_rules.specs.Events.{due_lines, enter_line, is_quiet}
use Rattle.rail_rules.specs.Causes.{place}
use Rattle.rail_rules.specs.Lawful.{is_lawful, may_follow}
use Rattle.rail_laws_front.specs.Premises.{IsWellFormed}
use Rattle.rail_laws_front.specs.Views.{Happens, is_event}
use Rattle.rail_laws_front.specs.EventLines.{IsEvent}
use Rattle.rail_laws_front.specs.EventLines.IsEvent.{entering, arriving, freeing, leaving, readying}
use Rattle.rail_laws_events.specs.Accounts.{is_train_event, tally, to_come}
use Rattle.rail_laws_events.proofs.CallerLemmas.{event_is_train}
use Rattle.rail_laws_front.proofs.CallerLemmas.{timely}
use Rattle.rail_rules.specs.Orders.{is_cancelled, told, Dispatch, input_of}
use Rattle.rail_laws_step.specs.HolderTables.{AreHolders}
use Rattle.rail_laws_step.specs.Heads.{enters}
use Rattle.rail_queue.specs.declared.event.Event.{Event}
use Rattle.rail_queue.specs.Order.{goes_before}
use Rattle.rail_queue.specs.declared.event.Class.TheVariants as class
use Rattle.rail_state.specs.Events.{event_of}
use Rattle.rail_state.specs.TrainStates.{state_of}
use Rattle.rail_state.specs.Representation.{AreKnown, HasHappened, Represents, bare_at, what_of}
use Rattle.rail_laws_step.specs.LinesToCome.{ToCome}
use Rattle.rail_state.proofs.Below.{well_formed_plant, follows_event, next_enter, to_come_found}
use Rattle.rail_state.proofs.EventCodes.{one_event, same_event}
use Rattle.rail_state.proofs.LineCodes.{before_by_time, event_time}
use Rattle.rail_state.proofs.Counts.{count-cons}
use Rattle.rail_state.proofs.Next.{due_some, found, found_due, least_line, none_due_before, quiet_earlier}
use Rattle.rail_state.proofs.Pending.{pending_after}
use Rattle.rail_state.proofs.Settling.{settled_front}
use Rattle.rail_state.proofs.Times.{times_kept}
use Rattle.rail_state.proofs.Lines.{EntersOne}
use Rattle.rail_state.proofs.Happening.{event_idle, heads_after, holders_hold, known_after, same_arrival, same_place, same_times, still_bound, still_held, told_after, waiting_after}
use Rattle.rail_state.specs.declared.run_state.RunState.{RunState}

event_is_event : (w : What) → is_train_event w ≡ true → is_event w ≡ true
event_is_event (Free x t) kind = refl
event_is_event (Arrive t m) kind = refl
event_is_event (Enter t m x) kind = refl
event_is_event (Out t) kind = refl
event_is_event (Ready t m) kind = refl
event_is_event (Told k) kind = absurd (false≢true kind)
event_is_event (Untold k) kind = absurd (false≢true kind)
event_is_event (Admit t m note) kind = absurd (false≢true kind)
event_is_event (Hold t m why) kind = absurd (false≢true kind)
event_is_event End kind = absurd (false≢true kind)

event_ends_nothing : (w : What) → is_train_event w ≡ true → is_end w ≡ false
event_ends_nothing (Free x t) kind = refl
event_ends_nothing (Arrive t m) kind = refl
event_ends_nothing (Enter t m x) kind = refl
event_ends_nothing (Out t) kind = refl
event_ends_nothing (Ready t m) kind = refl
event_ends_nothing (Told k) kind = absurd (false≢true kind)
event_ends_nothing (Untold k) kind = absurd (false≢true kind)
event_ends_nothing (Admit t m note) kind = absurd (false≢true kind)
event_ends_nothing (Hold t m why) kind = absurd (false≢true kind)
event_ends_nothing End kind = absurd (false≢true kind)

module _ (dispatch : Dispatch) (plant : Plant) (front : Front) (state : RunState) (rep : Represents dispatch plant front state) (going : has_ended front ≡ false) (event : Event)
    (rest : List Event) (first : state.queue.events ≡ event ∷ rest) (least : list_any (λ other. goes_before other event) state.queue.events ≡ false)
    (goes : (state.is_settled ≡ true) ⊎ (event.at ≡ state.instant)) (of_train : event.class ≡ class.Command → ⊥) where
  abbrev pub it : ToCome plant front (λ d. same_event event (event_of d))
  it = found dispatch plant front state rep event rest first least of_train

  same : event ≡ event_of it.entry
  same = one_event event (event_of it.entry) it.passes

  -- a line to come isn't earlier than the event
  later : (t : ℕ) (e : Entry) → t < trains plant → IsEvent plant t (admissions front t) (is_cancelled t (told dispatch.commands front)) e → stands front e ≡ false → event.at ≤ e.at
  later t e known is fresh =
      ⊎_elim
      (λ earlier. absurd (omega (
        arith,
        none_due_before dispatch plant front state rep event rest first least goes,
        due_some dispatch plant front (λ d. goes_before (event_of d) event) t e known is fresh (before_by_time (event_of e) event (omega (arith, earlier, event_time e))),
      )))
      (λ no. omega (arith, no))
      (cases_lt e.at event.at)

  -- an enter line is an event line of its train, cancelled or not
  entering_any : (u t : ℕ) (c : Bool) (e : Entry) → IsEvent plant u (admissions front u) false e → enters t e.what ≡ true → IsEvent plant u (admissions front u) c e
  entering_any u t c e (entering m j lm lj is) h = entering m j lm lj is
  entering_any u t c e (arriving m lm is) h = absurd (false≢true (sym (ap (λ (x : Entry). enters t x.what) is) ∙ h))
  entering_any u t c e (freeing m j lm lj closed is) h = absurd (false≢true (sym (ap (λ (x : Entry). enters t x.what) is) ∙ h))
  entering_any u t c e (leaving m lm last is) h = absurd (false≢true (sym (ap (λ (x : Entry). enters t x.what) is) ∙ h))
  entering_any u t c e (readying m lm left running is) h = absurd (false≢true (sym (ap (λ (x : Entry). enters t x.what) is) ∙ h))

  -- no enter line of the train is earlier
  none_earlier : (t : ℕ) → tally (λ d. enters t d.what && nat_lt d.at event.at) (to_come plant front) ≡ 0
  none_earlier t =
      ⊎_elim
      (λ some.
      let other = to_come_found plant front (λ d. enters t d.what && nat_lt d.at event.at) some in
      absurd (omega (
        arith,
        ltb-true other.entry.at event.at (and_parts (enters t other.entry.what)
            (nat_lt other.entry.at event.at) other.passes).1,
        later other.train other.entry other.known (entering_any other.train t
            (is_cancelled other.train (told dispatch.commands front)) other.entry other.event
            (and_parts (enters t other.entry.what) (nat_lt other.entry.at event.at) other.passes).0) other.fresh,
      )))
      (λ none. omega (arith, none))
      (cases_lt 0 (tally (λ d. enters t d.what && nat_lt d.at event.at) (to_come plant front)))

  -- the time of the event is that of its line
  same_time : event.at ≡ it.entry.at
  same_time = ap (λ (e : Event). e.at) same ∙ event_time it.entry

  lawful_now : is_lawful (input_of dispatch plant) front ≡ true
  lawful_now = rep.lawful

  fine : IsWellFormed plant
  fine = well_formed_plant plant rep.accepted

  -- the enter line that is next is at the head of its train
  at_head : (m j : ℕ) → m < place front it.train → j < steps plant it.train m → it.entry ≡ enter_line plant it.train (admissions front it.train) m j
      → (m ≡ (state_of state.trains it.train).head.place - 1) × (j ≡ (state_of state.trains it.train).head.step - 1)
  at_head m j lm lj is =
      next_enter (input_of dispatch plant) fine front lawful_now it.train ((state_of state.trains it.train).head.place - 1) ((state_of state.trains it.train).head.step - 1) m j it.known (rep.heads.heads it.train it.known) lm lj
      (sym (ap (stands front) is) ∙ it.fresh)
      (ap (λ at. tally (λ d. enters it.train d.what && nat_lt d.at at) (to_come plant front)) (sym (same_time ∙ ap (λ (e : Entry). e.at) is)) ∙ none_earlier it.train)

  -- what the event says is its line
  pub what_is : what_of plant state.trains event ≡ it.entry.what
  what_is = of it.event
    where
      of : IsEvent plant it.train (admissions front it.train) false it.entry → what_of plant state.trains event ≡ it.entry.what
      of (entering m j lm lj is) =
          let head = at_head m j lm lj is in
          ap (what_of plant state.trains) (same ∙ ap event_of is)
          ∙ ap (λ n. Enter it.train (suc m) (step_section plant it.train n ((state_of state.trains it.train).head.step - 1))) (sym head.0)
          ∙ ap (λ i. Enter it.train (suc m) (step_section plant it.train m i)) (sym head.1)
          ∙ sym (ap (λ (e : Entry). e.what) is)
      of (arriving m lm is) = ap (what_of plant state.trains) (same ∙ ap event_of is) ∙ sym (ap (λ (e : Entry). e.what) is)
      of (freeing m j lm lj closed is) = ap (what_of plant state.trains) (same ∙ ap event_of is) ∙ sym (ap (λ (e : Entry). e.what) is)
      of (leaving m lm last is) = ap (what_of plant state.trains) (same ∙ ap event_of is) ∙ sym (ap (λ (e : Entry). e.what) is)
      of (readying m lm left running is) = ap (what_of plant state.trains) (same ∙ ap event_of is) ∙ sym (ap (λ (e : Entry). e.what) is)

  pub line_is : (bare_at event.at (what_of plant state.trains event)).entry ≡ it.entry
  line_is = λ i. record { at = same_time i; what = what_is i }

  pub kind : is_train_event (what_of plant state.trains event) ≡ true
  kind = ap is_train_event what_is ∙ event_is_train plant it.train (admissions front it.train) false it.entry it.event

  -- nothing is due at the instant where the event is later
  quiet_before : instant front < event.at → is_quiet (due_lines (input_of dispatch plant) front) (instant front) ≡ true
  quiet_before lt = quiet_earlier dispatch plant front state rep event rest first least goes (instant front) lt

  -- the event isn't in the past
  not_past : instant front ≤ event.at
  not_past =
      let due = found_due dispatch plant front state rep event rest first least of_train in
      let due_time : event.at ≡ due.entry.at = ap (λ (e : Event). e.at) (one_event event (event_of due.entry) due.passing) ∙ event_time due.entry in
      ⊎_elim
      (λ stood. absurd (false≢true (sym due.unwritten ∙ stood)))
      (λ open_still. omega (arith, open_still, due_time))
      ((timely (input_of dispatch plant) fine front lawful_now).events due.train due.entry due.known due.event)

  happens : Happens (input_of dispatch plant) front (bare_at event.at (what_of plant state.trains event))
  happens =
      let least_parts = and_parts (list_any (same_entry it.entry) (due_lines (input_of dispatch plant) front)) (not (list_any (λ d. comes_before (rank d) (rank it.entry)) (due_lines (input_of dispatch plant) front))) (least_line dispatch plant front state rep event rest first least of_train goes) in
      record {
        event = event_is_event (what_of plant state.trains event) kind;
        bare = refl;
        due = ap (λ e. list_any (same_entry e) (due_lines (input_of dispatch plant) front)) line_is ∙ least_parts.0;
        least = ap (λ e. list_any (λ d. comes_before (rank d) (rank e)) (due_lines (input_of dispatch plant) front)) line_is ∙ not-true (list_any (λ d. comes_before (rank d) (rank it.entry)) (due_lines (input_of dispatch plant) front)) least_parts.1;
        when =
            ⊎_elim
            (λ settled. ⊎_elim
            (λ lt. inr (settled_front dispatch plant front state rep going settled (quiet_before lt)))
            (λ ge. inl (omega (arith, ge, not_past)))
            (cases_lt (instant front) event.at))
            (λ now. inl (now ∙ rep.time))
            goes;
      }

  pub follows : may_follow (input_of dispatch plant) front (bare_at event.at (what_of plant state.trains event)) ≡ true
  follows = follows_event (input_of dispatch plant) front (bare_at event.at (what_of plant state.trains event)) going happens

  pub event_lawful : is_lawful (input_of dispatch plant) (bare_at event.at (what_of plant state.trains event) ∷ front) ≡ true
  event_lawful = and_from (is_lawful (input_of dispatch plant) front) (may_follow (input_of dispatch plant) front (bare_at event.at (what_of plant state.trains event))) lawful_now follows

  -- the head that enters is at the right section
  pub entering_line : (t : ℕ) → (one : EntersOne t (what_of plant state.trains event)) → t < trains plant
      → ((state_of state.trains t).head.place - 1 < place front t)
      × ((bare_at event.at (what_of plant state.trains event)).entry
      ≡ enter_line plant t (admissions front t) ((state_of state.trains t).head.place - 1) ((state_of state.trains t).head.step - 1))
  entering_line t one lt = of it.event
    where
      enters_it : enters t it.entry.what ≡ true
      enters_it = ap (enters t) (sym what_is ∙ one.same) ∙ eq-eqb t t refl

      of : IsEvent plant it.train (admissions front it.train) false it.entry
          → ((state_of state.trains t).head.place - 1 < place front t)
          × ((bare_at event.at (what_of plant state.trains event)).entry
          ≡ enter_line plant t (admissions front t) ((state_of state.trains t).head.place - 1) ((state_of state.trains t).head.step - 1))
      of (entering m j lm lj is) =
          let head = at_head m j lm lj is in
          let this : it.train ≡ t = eqb-true it.train t (sym (ap (λ (e : Entry). enters t e.what) is) ∙ enters_it) in
          let P : ℕ → Type 0 = λ u. ((state_of state.trains u).head.place - 1 < place front u) × ((bare_at event.at (what_of plant state.trains event)).entry ≡ enter_line plant u (admissions front u) ((state_of state.trains u).head.place - 1) ((state_of state.trains u).head.step - 1)) in
          subst P this (
            subst (λ n. n < place front it.train) head.0 lm,
            line_is ∙ is
                ∙ ap (λ n. enter_line plant it.train (admissions front it.train) n j) head.0
                ∙ ap (enter_line plant it.train (admissions front it.train) ((state_of state.trains it.train).head.place - 1)) head.1,
          )
      of (arriving m lm is) = absurd (false≢true (sym (ap (λ (e : Entry). enters t e.what) is) ∙ enters_it))
      of (freeing m j lm lj closed is) = absurd (false≢true (sym (ap (λ (e : Entry). enters t e.what) is) ∙ enters_it))
      of (leaving m lm last is) = absurd (false≢true (sym (ap (λ (e : Entry). enters t e.what) is) ∙ enters_it))
      of (readying m lm left running is) = absurd (false≢true (sym (ap (λ (e : Entry). enters t e.what) is) ∙ enters_it))

  -- the run stands for the front with the line
  pub happened : (after : RunState) → HasHappened plant event state after → Represents dispatch plant (bare_at event.at (what_of plant state.trains event) ∷ front) after
  happened after has =
      let w : What = what_of plant state.trains event in
      let line : Line = bare_at event.at w in
      let idle : is_admission w ≡ false = event_idle w kind in
      let tail : after.queue.events ≡ rest = tail_of (sym has.events ∙ first) in
      record {
        accepted = rep.accepted;
        lawful = event_lawful;
        time = has.time;
        ended = has.going ∙ rep.ended ∙ going ∙ sym (event_ends_nothing w kind);
        begun = λ none. absurd (omega (arith, ap length none));
        times = times_kept plant line front state.trains after.trains idle has.many (same_place dispatch plant front state rep event.at w event_lawful kind after.trains has.trains) (same_times dispatch plant front state rep event.at w event_lawful kind after.trains has.trains) rep.times;
        pending = pending_after dispatch plant fine line front event_lawful kind event state.queue.events after.queue.events state.trains after.trains
            (ap event_of line_is ∙ sym same)
            (λ q. ap (λ list. count_by q list) has.events ∙ count-cons q event after.queue.events ∙ sym (ap (λ n. n + count_by q after.queue.events) (count-cons q event [] ∙ omega arith)))
            (same_place dispatch plant front state rep event.at w event_lawful kind after.trains has.trains)
            (same_arrival dispatch plant front state rep event.at w event_lawful kind after.trains has.trains)
            (still_held dispatch plant front state rep event.at w event_lawful kind after.trains has.trains goes)
            (still_bound dispatch plant front state rep event.at w event_lawful kind after.trains has.trains)
            rep.pending;
        heads = heads_after dispatch plant front state rep event.at w event_lawful kind after.trains has.trains entering_line;
        waiting = waiting_after dispatch plant front state rep event.at w event_lawful kind after.trains has.trains;
        holders = subst (AreHolders plant (line ∷ front)) (sym has.holders) (holders_hold dispatch plant front state rep event.at w event_lawful kind after.trains has.trains);
        known = subst (λ h. AreKnown dispatch plant (line ∷ front) h after.trains) (sym has.holders) (known_after dispatch plant front state rep event.at w event_lawful kind after.trains has.trains);
        settled = λ settled. let before = has.settled settled in told_after dispatch plant front state rep event.at w event_lawful kind after.trains has.trains (rep.settled before.0) before.1;
      }
    where
      tail_of : {e : Event} {xs ys : List Event} → e ∷ xs ≡ event ∷ ys → xs ≡ ys
      tail_of same_lists = ap (drop 1) same_lists
