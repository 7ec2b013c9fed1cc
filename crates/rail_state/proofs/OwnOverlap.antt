-- The pending events that give a train's own overlap free.
use Rattle.std.proofs.Common.{◌≡◌, ℕ, zero, suc, ◌+◌, ◌<◌, ◌≤◌, Bool, true, not, ◌&&◌, cond, eqb, List, get_or, None, refl, sym, ap, ◌∙◌, subst, ⊎_elim, arith}
use Rattle.std.specs.Prelude.{count_by}
use Rattle.std.proofs.lemmas.Bool.{and_from, and_parts, and_right, cases_eq, cond-false, eq-eqb, false≢true, ne_eqb, not_from_true}
use Rattle.std.proofs.lemmas.Option.{none-some}
use Rattle.rail_base.specs.declared.history.Entry.{Entry}
use Rattle.rail_base.specs.declared.history.What.TheVariants.{Free}
use Rattle.rail_rules.specs.Causes.{is_deciding, place}
use Rattle.rail_rules.specs.Events.{due_lines}
use Rattle.rail_rules.specs.Numbers.{is_in}
use Rattle.rail_rules.specs.Orders.{Dispatch, input_of}
use Rattle.rail_rules.specs.Apart.{IsStep}
use Rattle.rail_rules.specs.Plant.{Plant, claimed, claims, overlap, step_section, steps, trains}
use Rattle.rail_rules.specs.Fronts.{Front, admissions, at_time}
use Rattle.rail_rules.specs.Intervals.{timer_end}
use Rattle.rail_laws_events.specs.Accounts.{tally}
use Rattle.rail_laws_events.proofs.CallerLemmas.{tally-same}
use Rattle.rail_laws_step.specs.HolderTables.{gives_free, is_train}
use Rattle.rail_laws_step.proofs.CallerLemmas.{IsOwnStep, one_free_due, own_step}
use Rattle.rail_queue.specs.declared.event.Event.{Event}
use Rattle.rail_queue.specs.declared.event.Class.TheVariants as class
use Rattle.rail_queue.specs.Order.{is_of}
use Rattle.rail_state.specs.declared.run_state.RunState.{RunState}
use Rattle.rail_state.specs.Events.{AreFreedOnce, deferred_of, event_of, section_event}
use Rattle.rail_state.specs.Representation.{Represents, deferred_events, taken_over}
use Rattle.rail_state.specs.TrainStates.{state_of}
use Rattle.rail_state.proofs.Counts.{count-gather_zero, count-le, count-none, count-parts}
use Rattle.rail_state.proofs.FreeEvents.{deferred_none, gives_free_is, passed_there}

module _ (dispatch : Dispatch) (plant : Plant) (front : Front) (state : RunState) (rep : Represents dispatch plant front state)
    (deciding : is_deciding (input_of dispatch plant) front ≡ true) (t : ℕ) (known : t < trains plant) (k : ℕ) (here : suc k ≡ place front t)
    (x : ℕ) (there : is_in x (overlap plant t k) ≡ true)
    (held : is_train t (get_or state.holders x None) ≡ true) where
  abbrev timer : ℕ
  timer = timer_end plant t (admissions front t) k

  -- the due lines that give the section free
  due : (q : Event → Bool) → tally (λ d. is_of class.Free x (event_of d) && q (event_of d)) (due_lines (input_of dispatch plant) front) ≡ cond (q (section_event timer x t)) 1 0
  due q =
      let own : IsOwnStep plant t (suc k) x = own_step plant t (suc k) x there in
      let same_move : own.move ≡ k = omega (arith, own.last) in
      let S : ℕ → Type 0 = λ m. steps plant t m ≤ own.step in
      let C : ℕ → Type 0 = λ m. own.step < claims plant t m in
      let X : ℕ → Type 0 = λ m. step_section plant t m own.step ≡ x in
      let section : step_section plant t k own.step ≡ x = subst X same_move own.section in
      let H : ℕ → Type 0 = λ y. is_train t (get_or state.holders y None) ≡ true in
      let step : IsStep plant front t k own.step = record { known = known; admitted_move = omega (arith, here); step = subst C same_move own.claimed } in
      let p : Entry → Bool = λ d. q (event_of d) in
      let es = due_lines (input_of dispatch plant) front in
      let only = one_free_due (input_of dispatch plant) rep.accepted front rep.lawful deciding state.holders rep.holders t k own.step step here (subst S same_move own.over) (subst H (sym section) held) p in
      let P : ℕ → Type 0 = λ y. tally (λ d. gives_free y d.what && p d) es ≡ cond (p (at_time timer (Free y t))) 1 0 in
      tally-same (λ d. is_of class.Free x (event_of d) && p d) (λ d. gives_free x d.what && p d) es (λ d. ap (λ b. b && p d) (gives_free_is x d))
      ∙ subst P section only

  -- such events, pending and deferred
  all : (q : Event → Bool) → count_by (λ e. is_of class.Free x e && q e) state.queue.events + count_by (λ e. is_of class.Free x e && q e) (deferred_events plant state.trains) ≡ cond (q (section_event timer x t)) 1 0
  all q = rep.pending.counted (λ e. is_of class.Free x e && q e) ∙ due q

  -- so one pending event at most gives the section free
  few_pending : count_by (is_of class.Free x) state.queue.events ≤ 1
  few_pending =
      omega (
        arith,
        all (λ e. true),
        count-le (is_of class.Free x) (λ e. is_of class.Free x e && true) state.queue.events (λ e is. and_from (is_of class.Free x e) true is refl),
      )

  -- where nothing of the train is deferred
  module _ (nothing : (state_of state.trains t).deferred ≡ None) where
    -- none of them is deferred: not of this train, and there is none of another one
    none_of_this : count_by (λ e. is_of class.Free x e && eqb e.train t) (deferred_events plant state.trains) ≡ 0
    none_of_this =
        let test : Event → Bool = λ e. is_of class.Free x e && eqb e.train t in
        count-gather_zero test (λ u. deferred_of plant u (state_of state.trains u).place (state_of state.trains u).deferred) (trains plant)
        (λ u lt. count-none test (deferred_of plant u (state_of state.trains u).place (state_of state.trains u).deferred)
        (deferred_none test plant u (state_of state.trains u).place (state_of state.trains u).deferred (λ a is.
        ⊎_elim
        (λ same.
        let N : ℕ → Type 0 = λ v. (state_of state.trains v).deferred ≡ None in
        absurd (none-some a (sym (subst N (sym same) nothing) ∙ is)))
        (λ other. (refl, λ y. and_right (is_of class.Free x (section_event (a + plant.tables.overlap_time) y u)) (eqb u t) (ne_eqb u t other)))
        (cases_eq u t))))

    none_of_others : count_by (λ e. is_of class.Free x e && not (eqb e.train t)) (deferred_events plant state.trains) ≡ 0
    none_of_others = omega (arith, all (λ e. not (eqb e.train t)), cond-false {A = ℕ} (not (eqb t t)) 1 0 (not_from_true (eqb t t) (eq-eqb t t refl)))

    none_deferred : (q : Event → Bool) → count_by (λ e. is_of class.Free x e && q e) (deferred_events plant state.trains) ≡ 0
    none_deferred q =
        let es : List Event = deferred_events plant state.trains in
        let free : Event → Bool = is_of class.Free x in
        let mine : Event → Bool = λ e. eqb e.train t in
        omega (
          arith,
          count-le (λ e. free e && q e) free es (λ e passes. (and_parts (free e) (q e) passes).0),
          count-parts free mine es,
          count-le (λ e. mine e && free e) (λ e. free e && mine e) es (λ e passes. let both = and_parts (mine e) (free e) passes in and_from (free e) (mine e) both.1 both.0),
          count-le (λ e. not (mine e) && free e) (λ e. free e && not (mine e)) es (λ e passes. let both = and_parts (not (mine e)) (free e) passes in and_from (free e) (not (mine e)) both.1 both.0),
          none_of_this,
          none_of_others,
        )

    -- so one pending event gives the section free, when the timer runs out
    pub one_pending : (q : Event → Bool) → count_by (λ e. is_of class.Free x e && q e) state.queue.events ≡ cond (q (section_event timer x t)) 1 0
    one_pending q = omega (arith, all q, none_deferred q)

-- each section that the train would take over is given free by one pending event at most
pub taken_once : (dispatch : Dispatch) (plant : Plant) (front : Front) (state : RunState) → Represents dispatch plant front state → is_deciding (input_of dispatch plant) front ≡ true
    → (t : ℕ) → t < trains plant → AreFreedOnce (taken_over plant state.holders t (state_of state.trains t).place) state.queue.events
taken_once dispatch plant front state rep deciding t known =
    subst (λ p. AreFreedOnce (taken_over plant state.holders t p) state.queue.events) (sym (rep.times.places t known)) (of (place front t) refl)
  where
    of : (p : ℕ) → p ≡ place front t → AreFreedOnce (taken_over plant state.holders t p) state.queue.events
    of zero here x there = absurd (false≢true there)
    of (suc k) here x there =
        let is_taken : ℕ → Bool = λ y. is_in y (claimed plant t (suc k)) && is_train t (get_or state.holders y None) in
        let both = passed_there is_taken (overlap plant t k) x there in
        few_pending dispatch plant front state rep deciding t known k here x both.0 (and_parts (is_in x (claimed plant t (suc k))) (is_train t (get_or state.holders x None)) both.1).1
