-- What may be done at the first pending event.
use Rattle.std.proofs.Common.{◌≡◌, ◌-◌, ◌<◌, ◌≤◌, true, false, List, ◌∷◌, length, get_or, Some, None, sym, ap, ◌∙◌, subst, ◌⊎◌, ⊎_elim, arith}
use Rattle.std.specs.List.{list_any}
use Rattle.std.proofs.lemmas.Bool.{cases_lt, false≢true}
use Rattle.std.proofs.lemmas.List.{get_or_past}
use Rattle.std.proofs.lemmas.Option.{none-some}
use Rattle.rail_base.specs.declared.history.What.TheVariants as what
use Rattle.rail_rules.specs.Plant.{Plant, moves, step_section, trains}
use Rattle.rail_rules.specs.Fronts.{Front, admissions, has_ended}
use Rattle.rail_rules.specs.Causes.{place}
use Rattle.rail_laws_front.specs.EventLines.{IsEvent}
use Rattle.rail_laws_front.specs.EventLines.IsEvent.{entering, arriving, freeing, leaving, readying}
use Rattle.rail_laws_events.specs.Accounts.{is_train_event}
use Rattle.rail_laws_events.proofs.CallerLemmas.{few_admissions}
use Rattle.rail_queue.specs.declared.event.Event.{Event}
use Rattle.rail_queue.specs.declared.event.Class.{Class}
use Rattle.rail_queue.specs.declared.event.Class.TheVariants as class
use Rattle.rail_queue.specs.Order.{goes_before}
use Rattle.rail_state.specs.Events.{event_of}
use Rattle.rail_state.specs.TrainStates.{state_of}
use Rattle.rail_state.specs.Representation.{IsReadyFor, Represents, bare_at, what_of}
use Rattle.rail_state.proofs.Below.{well_formed_plant, holder_frees}
use Rattle.rail_state.proofs.Happened.{entering_line, it, kind, event_lawful}
use Rattle.rail_state.proofs.Lines.{EntersOne}
use Rattle.rail_rules.specs.Orders.{Dispatch, input_of}
use Rattle.rail_state.specs.declared.run_state.RunState.{RunState}

module _ (dispatch : Dispatch) (plant : Plant) (front : Front) (state : RunState) (rep : Represents dispatch plant front state) (going : has_ended front ≡ false) (event : Event)
    (rest : List Event) (first : state.queue.events ≡ event ∷ rest) (least : list_any (λ other. goes_before other event) state.queue.events ≡ false)
    (goes : (state.is_settled ≡ true) ⊎ (event.at ≡ state.instant)) (of_train : event.class ≡ class.Command → ⊥) where
  says_class : (c : Class) → event.class ≡ c → what_of plant state.trains event ≡ what_of plant state.trains (record event { class = c })
  says_class c is = ap (λ k. what_of plant state.trains (record event { class = k })) is

  enters_one : event.class ≡ class.Enter → EntersOne event.train (what_of plant state.trains event)
  enters_one is = record { move = event.place; section = step_section plant event.train ((state_of state.trains event.train).head.place - 1) ((state_of state.trains event.train).head.step - 1); same = says_class class.Enter is }

  frees_one : event.class ≡ class.Free → what_of plant state.trains event ≡ what.Free event.number event.train
  frees_one is = says_class class.Free is

  train_is : event.train ≡ (it dispatch plant front state rep going event rest first least goes of_train).train
  train_is = of (it dispatch plant front state rep going event rest first least goes of_train).event
    where
      same : event ≡ event_of (it dispatch plant front state rep going event rest first least goes of_train).entry
      same = Rattle.rail_state.proofs.EventCodes.one_event event (event_of (it dispatch plant front state rep going event rest first least goes of_train).entry) (it dispatch plant front state rep going event rest first least goes of_train).passes

      of : IsEvent plant (it dispatch plant front state rep going event rest first least goes of_train).train
          (admissions front (it dispatch plant front state rep going event rest first least goes of_train).train) false
          (it dispatch plant front state rep going event rest first least goes of_train).entry
          → event.train ≡ (it dispatch plant front state rep going event rest first least goes of_train).train
      of (entering m j lm lj is) = ap (λ (e : Event). e.train) (same ∙ ap event_of is)
      of (arriving m lm is) = ap (λ (e : Event). e.train) (same ∙ ap event_of is)
      of (freeing m j lm lj closed is) = ap (λ (e : Event). e.train) (same ∙ ap event_of is)
      of (leaving m lm last is) = ap (λ (e : Event). e.train) (same ∙ ap event_of is)
      of (readying m lm left running is) = ap (λ (e : Event). e.train) (same ∙ ap event_of is)

  pub ready_for : IsReadyFor plant state event
  ready_for = record {
    known_train = known;
    no_command = λ is. false≢true (sym (ap is_train_event (says_class class.Command is)) ∙ kind dispatch plant front state rep going event rest first least goes of_train);
    section = λ is.
        ⊎_elim
        (λ lt. lt)
        (λ past. absurd (none-some event.train (sym (get_or_past state.holders event.number None (omega (arith, past))) ∙ holder_is is)))
        (cases_lt event.number (length state.holders));
    holder = holder_is;
    place_counts = λ is. omega (arith, rep.heads.place_counts event.train known);
    place_within = λ is. omega (arith, rep.heads.place_counts event.train known, (entering_line dispatch plant front state rep going event rest first least goes of_train event.train (enters_one is) known).0, few);
    step_counts = λ is. omega (arith, rep.heads.step_counts event.train known);
    step_within = λ is.
        omega (
          arith,
          rep.heads.step_counts event.train known,
          (rep.heads.heads event.train known).within (omega (arith, (entering_line dispatch plant front state rep going event rest first least goes of_train event.train (enters_one is) known).0, few)),
        );
  }
    where
      known : event.train < trains plant
      known = subst (λ t. t < trains plant) (sym train_is) (it dispatch plant front state rep going event rest first least goes of_train).known

      few : place front event.train ≤ moves plant event.train
      few = few_admissions (input_of dispatch plant) (well_formed_plant plant rep.accepted) front rep.lawful event.train known

      holder_is : event.class ≡ class.Free → get_or state.holders event.number None ≡ Some event.train
      holder_is is = (holder_frees (input_of dispatch plant) rep.accepted (bare_at event.at (what_of plant state.trains event)) front (event_lawful dispatch plant front state rep going event rest first least goes of_train) event.number event.train (frees_one is) state.holders rep.holders).0
