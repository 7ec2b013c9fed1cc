-- A hold line: what it changes.
use Rattle.std.proofs.Common.{◌≡◌, ℕ, suc, ◌-◌, ◌<◌, true, false, not, ◌&&◌, eqb, ◌∷◌, length, Option, Some, None, is_some, refl, sym, ap, ◌∙◌, subst, ◌⊎◌, inr, ⊎_elim, arith}
use Rattle.std.specs.Prelude.{count_by}
use Rattle.std.proofs.lemmas.Bool.{and_parts, and_from, cases_Bool, eqb-true, eq-eqb, false≢true, not-true}
use Rattle.std.proofs.lemmas.Option.{none-some}
use Rattle.std.proofs.lemmas.List.{get_or-set_same, get_or-set_other, length-set}
use Rattle.rail_base.specs.declared.history.Cause.{Cause}
use Rattle.rail_base.specs.declared.history.What.TheVariants.{Hold}
use Rattle.rail_rules.specs.Plant.{Plant, is_forced, trains, moves}
use Rattle.rail_rules.specs.Times.{stop_time}
use Rattle.rail_rules.specs.Fronts.{Front, Line, has_ended, same_cause}
use Rattle.rail_rules.specs.Causes.{cause, is_deciding, last_hold, place}
use Rattle.rail_rules.specs.Lawful.{is_lawful, may_follow}
use Rattle.rail_laws_front.specs.Premises.{IsWellFormed}
use Rattle.rail_laws_front.specs.Views.{Holds}
use Rattle.rail_laws_step.proofs.CallerLemmas.{other_left}
use Rattle.rail_state.proofs.Seen.{seen_kept}
use Rattle.rail_laws_step.specs.HolderTables.{AreHolders}
use Rattle.rail_laws_step.specs.Heads.{IsHead}
use Rattle.rail_state.specs.Events.{deferred_of, event_of}
use Rattle.rail_state.specs.declared.train.TrainState.{TrainState}
use Rattle.rail_state.specs.TrainStates.{lacks_hold_line, state_of, after_hold_line}
use Rattle.rail_state.specs.Representation.{AreAllKnown, IsBound, IsHoldLine, Represents, bare_at}
use Rattle.rail_state.proofs.Below.{well_formed_plant, follows_hold, head_kept, hold_here, hold_of_other, holders_kept, holds_when_known, out_kept, ready_kept}
use Rattle.rail_state.proofs.LineCodes.{one_cause}
use Rattle.rail_state.proofs.Counts.{count-exchanged}
use Rattle.rail_state.proofs.FirstSections.{at_first_kept}
use Rattle.rail_state.proofs.Lines.{is_free_line, is_ready_line}
use Rattle.rail_state.proofs.Settling.{cause_seen}
use Rattle.rail_state.proofs.Times.{times_kept}
use Rattle.rail_rules.specs.Orders.{Dispatch, input_of}
use Rattle.rail_state.specs.declared.run_state.RunState.{RunState}
use Rattle.rail_state.specs.SeenCauses.{seen_cause}

module _ (dispatch : Dispatch) (plant : Plant) (front : Front) (state : RunState) (rep : Represents dispatch plant front state) (going : has_ended front ≡ false)
    (deciding : is_deciding (input_of dispatch plant) front ≡ true) (all_known : AreAllKnown plant state.trains) (t : ℕ) (known : t < trains plant) (why : Cause)
    (is : (state_of state.trains t).known ≡ Some why) (untold : lacks_hold_line (state_of state.trains t) ≡ true)
    (first : (u : ℕ) → u < t → lacks_hold_line (state_of state.trains u) ≡ false) where
  abbrev pub line : Line
  line = bare_at state.instant (Hold t (suc (place front t)) why)

  fine : IsWellFormed plant
  fine = well_formed_plant plant rep.accepted

  lawful_now : is_lawful (input_of dispatch plant) front ≡ true
  lawful_now = rep.lawful

  untold_parts : (((state_of state.trains t).waits && is_some (state_of state.trains t).known) ≡ true) × (not (same_cause (state_of state.trains t).last_hold (state_of state.trains t).known) ≡ true)
  untold_parts = and_parts ((state_of state.trains t).waits && is_some (state_of state.trains t).known) (not (same_cause (state_of state.trains t).last_hold (state_of state.trains t).known)) untold

  waits_it : (state_of state.trains t).waits ≡ true
  waits_it = (and_parts (state_of state.trains t).waits (is_some (state_of state.trains t).known) untold_parts.0).0

  -- a cause that is known is the cause
  known_is_cause : (u : ℕ) (c : Cause) → u < trains plant → (state_of state.trains u).known ≡ Some c → cause (input_of dispatch plant) front u ≡ Some c
  known_is_cause u c lt k = cause_seen dispatch plant front state rep deciding u ∙ rep.known.cause u c lt k

  some_known : (o : Option Cause) → is_some o ≡ true → (c : Cause) × (o ≡ Some c)
  some_known None h = absurd (false≢true h)
  some_known (Some c) h = (c, refl)

  holds : Holds (input_of dispatch plant) front line t (suc (place front t)) why
  holds = holds_when_known (input_of dispatch plant) front t why state.instant deciding rep.time
      (λ u lt ready. let c = some_known (state_of state.trains u).known (all_known u lt (rep.waiting.ready u lt ∙ ready)) in ap is_some (known_is_cause u c.0 lt c.1))
      known
      (sym (rep.waiting.ready t known) ∙ waits_it)
      (known_is_cause t why known is)
      (sym (ap (λ told. same_cause told (Some why)) (rep.waiting.told t known)) ∙ sym (ap (same_cause (state_of state.trains t).last_hold) is) ∙ not-true (same_cause (state_of state.trains t).last_hold (state_of state.trains t).known) untold_parts.1)
      (λ u lt ready.
      let below : u < trains plant = omega (arith, lt, known) in
      let waits : (state_of state.trains u).waits ≡ true = rep.waiting.ready u below ∙ ready in
      let c = some_known (state_of state.trains u).known (all_known u below waits) in
      sym (rep.waiting.told u below) ∙ told_same u below waits (ap is_some c.1) (first u lt) ∙ c.1 ∙ sym (known_is_cause u c.0 below c.1))
    where
      told_same : (u : ℕ) → u < trains plant → (state_of state.trains u).waits ≡ true → is_some (state_of state.trains u).known ≡ true → lacks_hold_line (state_of state.trains u) ≡ false → (state_of state.trains u).last_hold ≡ (state_of state.trains u).known
      told_same u lt waits some untold_no =
          ⊎_elim
          (λ same. one_cause (state_of state.trains u).last_hold (state_of state.trains u).known same)
          (λ other. absurd (false≢true (sym untold_no ∙ and_from ((state_of state.trains u).waits && is_some (state_of state.trains u).known)
          (not (same_cause (state_of state.trains u).last_hold (state_of state.trains u).known))
          (and_from (state_of state.trains u).waits (is_some (state_of state.trains u).known) waits some) (ap not other))))
          (cases_Bool (same_cause (state_of state.trains u).last_hold (state_of state.trains u).known))

  pub follows : may_follow (input_of dispatch plant) front line ≡ true
  follows = follows_hold (input_of dispatch plant) front line t (suc (place front t)) why going holds

  pub hold_lawful : is_lawful (input_of dispatch plant) (line ∷ front) ≡ true
  hold_lawful = and_from (is_lawful (input_of dispatch plant) front) (may_follow (input_of dispatch plant) front line) lawful_now follows

  -- the run stands for the front with the line
  pub held : (after : RunState) → IsHoldLine plant t state after → Represents dispatch plant (line ∷ front) after
  held after has =
      record {
        accepted = rep.accepted;
        lawful = hold_lawful;
        time = has.time;
        ended = has.going ∙ rep.ended ∙ going;
        begun = λ none. absurd (omega (arith, ap length none));
        times = times_kept plant line front state.trains after.trains refl (ap length has.trains ∙ length-set state.trains t (after_hold_line (state_of state.trains t)))
            (λ u lt. same_part (λ r. r.place) (λ r. refl) u lt) (λ u lt. same_part (λ r. r.times) (λ r. refl) u lt) rep.times;
        pending = record {
          counted = λ q.
              omega (
                arith,
                has.events q,
                rep.pending.counted q,
                other_left (input_of dispatch plant) fine line front hold_lawful refl refl refl (λ e. q (event_of e)) (λ at k. refl),
                count-exchanged q (λ u. deferred_of plant u (state_of state.trains u).place (state_of state.trains u).deferred) (λ u. deferred_of plant u (state_of after.trains u).place (state_of after.trains u).deferred) (trains plant) t known
                    (λ u lt other. ap (λ (r : TrainState). deferred_of plant u r.place r.deferred) (sym (other_state u other))),
                ap (λ (r : TrainState). count_by q (deferred_of plant t r.place r.deferred)) this_state,
              );
          deferred = λ u at lt arrives.
              ⊎_elim
              (λ here. absurd (none-some at (sym (ap (λ (r : TrainState). r.deferred) this_state) ∙ subst (λ v. (state_of after.trains v).deferred ≡ Some at) (eqb-true u t here) arrives)))
              (λ other_train.
              let other : u ≡ t → ⊥ = λ e. false≢true (sym other_train ∙ eq-eqb u t e) in
              let back = rep.pending.deferred u at lt (sym (ap (λ (r : TrainState). r.deferred) (other_state u other)) ∙ arrives) in
              let same = other_state u other in
              record {
                begun = subst (λ (r : TrainState). 0 < r.place) (sym same) back.begun;
                left = subst (λ (r : TrainState). r.place < moves plant u) (sym same) back.left;
                unforced = subst (λ (r : TrainState). is_forced plant u r.place ≡ false) (sym same) back.unforced;
                stops = subst (λ (r : TrainState). at ≡ stop_time plant u r.times.free_run) (sym same) back.stops;
                early = subst (λ (r : TrainState). r.times.next_ready < at) (sym same) back.early;
                still = subst (λ (r : TrainState). (r.waits ≡ false) ⊎ ((r.times.next_ready ≡ state.instant) × (r.last_hold ≡ None))) (sym same)
                    (subst (λ now. ((state_of state.trains u).waits ≡ false) ⊎ (((state_of state.trains u).times.next_ready ≡ now) × ((state_of state.trains u).last_hold ≡ None)))
                    (sym rep.time) back.still);
              })
              (cases_Bool (eqb u t));
          bound = λ u lt none some left.
              ⊎_elim
              (λ here. let e : t ≡ u = sym (eqb-true u t here) in subst (λ v. IsBound plant v (state_of after.trains v)) e (inr (ap is_some (ap (λ (r : TrainState). r.last_hold) this_state ∙ is))))
              (λ other_train.
              let same = other_state u (λ e. false≢true (sym other_train ∙ eq-eqb u t e)) in
              subst (IsBound plant u) (sym same) (rep.pending.bound u lt (sym (ap (λ (r : TrainState). r.deferred) same) ∙ none) (subst (λ (r : TrainState). 0 < r.place) same some) (subst (λ (r : TrainState). r.place < moves plant u) same left)))
              (cases_Bool (eqb u t));
        };
        heads = record {
          place_counts = λ u lt. subst (λ h. 0 < h.place) (sym (same_part (λ r. r.head) (λ r. refl) u lt)) (rep.heads.place_counts u lt);
          step_counts = λ u lt. subst (λ h. 0 < h.step) (sym (same_part (λ r. r.head) (λ r. refl) u lt)) (rep.heads.step_counts u lt);
          heads = λ u lt. subst (λ h. IsHead plant (line ∷ front) u (h.place - 1) (h.step - 1)) (sym (same_part (λ r. r.head) (λ r. refl) u lt))
              (head_kept (input_of dispatch plant) fine line front hold_lawful u ((state_of state.trains u).head.place - 1) ((state_of state.trains u).head.step - 1) refl (rep.heads.heads u lt));
        };
        waiting = record {
          ready = λ u lt. same_part (λ r. r.waits) (λ r. refl) u lt ∙ rep.waiting.ready u lt ∙ sym (ready_kept (input_of dispatch plant) line front hold_lawful refl refl u (λ m same. false≢true (ap is_ready_line same)));
          told = λ u lt.
              ⊎_elim
              (λ here. let e : t ≡ u = sym (eqb-true u t here) in subst (λ v. (state_of after.trains v).last_hold ≡ last_hold (line ∷ front) v (suc (place front v))) e
              (ap (λ (r : TrainState). r.last_hold) this_state ∙ is ∙ sym (hold_here line front t (suc (place front t)) why refl)))
              (λ other_train.
              let other : u ≡ t → ⊥ = λ e. false≢true (sym other_train ∙ eq-eqb u t e) in
              ap (λ (r : TrainState). r.last_hold) (other_state u other) ∙ rep.waiting.told u lt ∙ sym (hold_of_other line front t (suc (place front t)) u (suc (place front u)) why refl other))
              (cases_Bool (eqb u t));
          out = λ u lt. same_part (λ r. r.is_out) (λ r. refl) u lt ∙ rep.waiting.out u lt ∙ sym (out_kept line front u refl);
        };
        holders = subst (AreHolders plant (line ∷ front)) (sym has.holders) (holders_kept (input_of dispatch plant) rep.accepted line front hold_lawful refl (λ x u same. false≢true (ap is_free_line same)) state.holders rep.holders);
        known = record {
          cause = λ u c lt k.
              ap (λ h. seen_cause (input_of dispatch plant) (line ∷ front) h u) has.holders
              ∙ seen_kept dispatch plant line front state.holders u refl refl
              ∙ rep.known.cause u c lt (sym (same_part (λ r. r.known) (λ r. refl) u lt) ∙ k);
          waits = λ u c lt k. same_part (λ r. r.waits) (λ r. refl) u lt ∙ rep.known.waits u c lt (sym (same_part (λ r. r.known) (λ r. refl) u lt) ∙ k);
          at_first_section = λ u c lt k. at_first_kept plant state.trains after.trains u c lt rep.known.at_first_section (sym (same_part (λ r. r.known) (λ r. refl) u lt) ∙ k) (same_part (λ r. r.place) (λ r. refl) u lt) (same_part (λ r. r.at_first) (λ r. refl) u lt);
          no_more = λ held_now u lt waits. ap is_some (same_part (λ r. r.known) (λ r. refl) u lt) ∙ all_known u lt (sym (same_part (λ r. r.waits) (λ r. refl) u lt) ∙ waits);
        };
        settled = λ settled. absurd (false≢true (sym has.settled ∙ settled));
      }
    where
      in_list : t < length state.trains
      in_list = omega (arith, known, rep.times.many)

      this_state : state_of after.trains t ≡ after_hold_line (state_of state.trains t)
      this_state = ap (λ states. state_of states t) has.trains ∙ get_or-set_same state.trains t (after_hold_line (state_of state.trains t)) _ in_list

      other_state : (u : ℕ) → (u ≡ t → ⊥) → state_of after.trains u ≡ state_of state.trains u
      other_state u other = ap (λ states. state_of states u) has.trains ∙ get_or-set_other state.trains t u (after_hold_line (state_of state.trains t)) _ other

      same_part : {B : Type 0} (part : TrainState → B) → ((r : TrainState) → part (after_hold_line r) ≡ part r) → (u : ℕ) → u < trains plant → part (state_of after.trains u) ≡ part (state_of state.trains u)
      same_part part same u lt =
          ⊎_elim
          (λ here. let e : t ≡ u = sym (eqb-true u t here) in subst (λ v. part (state_of after.trains v) ≡ part (state_of state.trains v)) e (ap part this_state ∙ same (state_of state.trains t)))
          (λ other_train. ap part (other_state u (λ e. false≢true (sym other_train ∙ eq-eqb u t e))))
          (cases_Bool (eqb u t))

-- a train that lacks its hold line has a known cause
pub cause_known : (train_state : TrainState) → lacks_hold_line train_state ≡ true → is_some train_state.known ≡ true
cause_known train_state untold =
    (and_parts train_state.waits (is_some train_state.known) (and_parts (train_state.waits && is_some train_state.known) (not (same_cause train_state.last_hold train_state.known)) untold).0).1
