-- A command that is the first pending event is told.
use Rattle.std.proofs.Common.{Bool, cond, refl, ◌≡◌, ℕ, suc, ◌+◌, ◌≤◌, true, false, List, ◌∷◌, Some, sym, ap, ◌∙◌, ◌⊎◌, ⊎_elim, arith}
use Rattle.std.specs.Prelude.{slice_get}
use Rattle.std.specs.List.{list_any}
use Rattle.std.proofs.lemmas.Bool.{false≢true}
use Rattle.rail_base.specs.declared.history.Entry.{Entry}
use Rattle.rail_base.specs.declared.orders.Command.{Command}
use Rattle.rail_rules.specs.Plant.{Plant}
use Rattle.rail_base.specs.declared.history.What.TheVariants.{Told, Untold}
use Rattle.rail_rules.specs.Fronts.{Front, admissions, has_ended, instant}
use Rattle.rail_laws_front.specs.EventLines.{IsEvent}
use Rattle.rail_laws_front.specs.EventLines.IsEvent.{entering, arriving, freeing, leaving, readying}
use Rattle.rail_rules.specs.Lawful.{is_lawful}
use Rattle.rail_rules.specs.Orders.{is_cancelled, orders_of, takes_effect, told, Dispatch, input_of}
use Rattle.rail_rules.specs.Events.{command_line, due_lines, is_written}
use Rattle.rail_laws_front.proofs.CallerLemmas.{IsCommandDue, IsEventDue, due_found, timely}
use Rattle.rail_queue.specs.declared.event.Event.{Event}
use Rattle.rail_queue.specs.declared.event.Class.TheVariants as class
use Rattle.rail_queue.specs.Order.{class_number, goes_before}
use Rattle.rail_state.specs.Events.{event_of}
use Rattle.rail_state.specs.Representation.{HasTold, IsCommandOf, Represents, bare_at}
use Rattle.rail_state.proofs.Below.{well_formed_plant}
use Rattle.rail_state.proofs.EventCodes.{one_event, same_event}
use Rattle.rail_state.proofs.LineCodes.{event_time}
use Rattle.rail_state.proofs.Next.{held_later, quiet_earlier, some_due}
use Rattle.rail_state.proofs.Settling.{settled_front}
use Rattle.rail_state.proofs.Telling.{lawful_now, told_after}
use Rattle.rail_state.specs.declared.run_state.RunState.{RunState}

-- an event that is counted isn't in the past
not_past : (dispatch : Dispatch) (plant : Plant) (front : Front) (state : RunState) → Represents dispatch plant front state → (event : Event) → list_any (λ d. same_event event (event_of d)) (due_lines (input_of dispatch plant) front) ≡ true → instant front ≤ event.at
not_past dispatch plant front state rep event some = ⊎_elim of_train of_command (due_found (input_of dispatch plant) front (λ d. same_event event (event_of d)) some)
  where
    of_train : IsEventDue (input_of dispatch plant) front (λ d. same_event event (event_of d)) → instant front ≤ event.at
    of_train due =
        ⊎_elim
        (λ stood. absurd (false≢true (sym due.unwritten ∙ stood)))
        (λ still. omega (arith, still, ap (λ (e : Event). e.at) (one_event event (event_of due.entry) due.passing), event_time due.entry))
        ((timely (input_of dispatch plant) (well_formed_plant plant rep.accepted) front rep.lawful).events due.train due.entry due.known due.event)

    of_command : IsCommandDue (input_of dispatch plant) front (input_of dispatch plant).commands 0 (λ d. same_event event (event_of d)) → instant front ≤ event.at
    of_command due =
        let index : 0 + due.index ≡ due.index = omega arith in
        ⊎_elim
        (λ written. absurd (false≢true (sym due.unwritten ∙ ap (is_written front due.command) index ∙ written)))
        (λ still. omega (arith, still, ap (λ (e : Event). e.at) (one_event event (event_of (command_line (input_of dispatch plant) front due.command (0 + due.index))) due.passing), event_time (command_line (input_of dispatch plant) front due.command (0 + due.index))))
        ((timely (input_of dispatch plant) (well_formed_plant plant rep.accepted) front rep.lawful).commands due.index due.command due.listed)

pub commanded : (dispatch : Dispatch) (plant : Plant) (front : Front) (state : RunState) → Represents dispatch plant front state → has_ended front ≡ false
    → (event : Event) (rest : List Event) → state.queue.events ≡ event ∷ rest → (after : RunState) (k : ℕ) (command : Command) → slice_get dispatch.commands k ≡ Some command
    → event.class ≡ class.Command → event.number ≡ suc k → list_any (λ other. goes_before other event) state.queue.events ≡ false → (state.is_settled ≡ true) ⊎ (event.at ≡ state.instant)
    → HasTold plant (orders_of dispatch.commands (command_line (input_of dispatch plant) front command k).what) event state after
    → Represents dispatch plant (bare_at event.at (command_line (input_of dispatch plant) front command k).what ∷ front) after
commanded dispatch plant front state rep going event rest first after k command listed classed numbered least goes has =
    told_after dispatch plant front state rep going event after k command listed classed numbered least
    (λ t at lt held. held_later dispatch plant front state rep event rest first least goes t at lt held)
    goes
    (λ settled later. settled_front dispatch plant front state rep going settled (quiet_earlier dispatch plant front state rep event rest first least goes (instant front) later))
    (not_past dispatch plant front state rep event (some_due dispatch plant front state rep event rest first least))
    has

-- its line may follow
pub command_lawful : (dispatch : Dispatch) (plant : Plant) (front : Front) (state : RunState) → Represents dispatch plant front state → has_ended front ≡ false
    → (event : Event) (rest : List Event) → state.queue.events ≡ event ∷ rest → (k : ℕ) (command : Command) → slice_get dispatch.commands k ≡ Some command
    → event.class ≡ class.Command → event.number ≡ suc k → list_any (λ other. goes_before other event) state.queue.events ≡ false → (state.is_settled ≡ true) ⊎ (event.at ≡ state.instant)
    → is_lawful (input_of dispatch plant) (bare_at event.at (command_line (input_of dispatch plant) front command k).what ∷ front) ≡ true
command_lawful dispatch plant front state rep going event rest first k command listed classed numbered least goes =
    lawful_now dispatch plant front state rep going event state k command listed classed numbered least
    (λ t at lt held. held_later dispatch plant front state rep event rest first least goes t at lt held)
    goes
    (λ settled later. settled_front dispatch plant front state rep going settled (quiet_earlier dispatch plant front state rep event rest first least goes (instant front) later))
    (not_past dispatch plant front state rep event (some_due dispatch plant front state rep event rest first least))
    rest first

pub listed_command : (dispatch : Dispatch) (plant : Plant) (front : Front) (state : RunState) → Represents dispatch plant front state → (event : Event) (rest : List Event) → state.queue.events ≡ event ∷ rest → list_any (λ other. goes_before other event) state.queue.events ≡ false
    → event.class ≡ class.Command → IsCommandOf dispatch event
listed_command dispatch plant front state rep event rest first least classed =
    ⊎_elim
    (λ due. absurd (no_train due.train (is_cancelled due.train (told dispatch.commands front)) due.entry due.event (ap (λ (x : Event). class_number x.class) (sym (one_event event (event_of due.entry) due.passing)) ∙ ap class_number classed)))
    (λ due. record {
      index = due.index;
      command = due.command;
      listed = due.listed;
      numbered = ap (λ (x : Event). x.number) (one_event event (event_of (command_line (input_of dispatch plant) front due.command (0 + due.index))) due.passing)
          ∙ number_of (takes_effect (input_of dispatch plant) front (told dispatch.commands front) due.command.what) due.command.at (suc (0 + due.index)) ∙ omega arith;
    })
    (due_found (input_of dispatch plant) front (λ d. same_event event (event_of d)) (some_due dispatch plant front state rep event rest first least))
  where
    number_of : (b : Bool) (at n : ℕ) → (event_of (record { at = at; what = cond b (Told n) (Untold n) })).number ≡ n
    number_of true at n = refl
    number_of false at n = refl

    no_train : (t : ℕ) (c : Bool) (x : Entry) → IsEvent plant t (admissions front t) c x → class_number (event_of x).class ≡ 5 → ⊥
    no_train t c x (entering m j lm lj is) n = absurd (omega (arith, sym n ∙ ap (λ (y : Entry). class_number (event_of y).class) is))
    no_train t c x (arriving m lm is) n = absurd (omega (arith, sym n ∙ ap (λ (y : Entry). class_number (event_of y).class) is))
    no_train t c x (freeing m j lm lj closed is) n = absurd (omega (arith, sym n ∙ ap (λ (y : Entry). class_number (event_of y).class) is))
    no_train t c x (leaving m lm last is) n = absurd (omega (arith, sym n ∙ ap (λ (y : Entry). class_number (event_of y).class) is))
    no_train t c x (readying m lm left running is) n = absurd (omega (arith, sym n ∙ ap (λ (y : Entry). class_number (event_of y).class) is))
