-- Before the first line.
use Rattle.std.proofs.Common.{◌&&◌, ◌≡◌, ℕ, zero, suc, ◌-◌, ◌<◌, min, Bool, true, false, not, List, [], ◌∷◌, length, refl, sym, ap, ◌∙◌, subst, arith}
use Rattle.std.specs.Prelude.{count_by}
use Rattle.std.specs.List.{filter}
use Rattle.std.proofs.lemmas.Option.{none-some}
use Rattle.rail_base.specs.declared.history.Entry.{Entry}
use Rattle.rail_base.specs.declared.history.What.{What}
use Rattle.rail_base.specs.declared.history.What.TheVariants as what
use Rattle.rail_laws_step.specs.KeptLines.{is_kept}
use Rattle.rail_laws_step.proofs.CallerLemmas.{due_split, nobody_ready, nobody_out}
use Rattle.rail_laws_events.specs.Accounts.{to_come}
use Rattle.rail_laws_events.proofs.CallerLemmas.{tally-same, tally-gather, tally-append}
use Rattle.rail_rules.specs.Numbers.{gather, sum_below}
use Rattle.rail_rules.specs.Plant.{Plant, moves, trains}
use Rattle.rail_rules.specs.Fronts.{stands}
use Rattle.rail_rules.specs.Events.{moved_events, ready_events, ready_line, train_events}
use Rattle.rail_rules.specs.Accepted.{is_accepted}
use Rattle.rail_laws_front.specs.Premises.{IsWellFormed}
use Rattle.rail_laws_front.proofs.CallerLemmas.{get_or-listed, length-listed}
use Rattle.rail_laws_events.specs.Accounts.{all_events, tally}
use Rattle.rail_laws_step.specs.HolderTables.{AreHolders}
use Rattle.rail_queue.specs.declared.event.Event.{Event}
use Rattle.rail_queue.specs.declared.event.Class.TheVariants as class
use Rattle.rail_state.specs.Events.{deferred_of, event_of, train_event}
use Rattle.rail_state.specs.declared.train.TrainState.{TrainState}
use Rattle.rail_state.specs.TrainStates.{no_state, outside, state_of}
use Rattle.rail_state.specs.Representation.{IsBeginning, Represents, deferred_events}
use Rattle.rail_state.proofs.Below.{well_formed_plant, first_head, first_holders}
use Rattle.rail_state.proofs.Counts.{count-append, count-gather_zero}
use Rattle.rail_rules.specs.Orders.{Dispatch, input_of}
use Rattle.rail_state.specs.declared.run_state.RunState.{RunState}

-- nothing stands before the first line
-- no order was told, and all stay
all_kept : (w : What) → is_kept [] w ≡ true
all_kept (what.Ready t m) = refl
all_kept (what.Free x t) = refl
all_kept (what.Arrive t m) = refl
all_kept (what.Enter t m x) = refl
all_kept (what.Out t) = refl
all_kept (what.Told k) = refl
all_kept (what.Untold k) = refl
all_kept (what.Admit t m note) = refl
all_kept (what.Hold t m why) = refl
all_kept what.End = refl

all_to_come : (xs : List Entry) → filter (λ e. not (stands [] e)) xs ≡ xs
all_to_come [] = refl
all_to_come (x ∷ xs) = ap (λ rest. x ∷ rest) (all_to_come xs)

pub begins : (dispatch : Dispatch) (plant : Plant) (state : RunState) → is_accepted plant ≡ true → IsBeginning dispatch plant state → Represents dispatch plant [] state
begins dispatch plant state accepted has = record {
  accepted = accepted;
  lawful = refl;
  time = has.time;
  ended = has.going;
  begun = λ none. has.settled;
  times = record {
    many = ap length has.trains ∙ length-listed (outside plant) (trains plant);
    places = λ t lt. ap (λ (r : TrainState). r.place) (train_is t lt);
    times = λ t lt. ap (λ (r : TrainState). r.times) (train_is t lt);
  };
  pending = record {
    counted = λ q. omega (
      arith,
      has.events q,
      none_held q,
      ready_lines q (trains plant) (λ t lt. lt),
      tally-gather (λ e. q (event_of e)) (λ t. train_events plant t [] false)
          (trains plant),
      ap (tally (λ e. q (event_of e))) (all_to_come (all_events plant [])),
      due_split (input_of dispatch plant) [] (λ e. q (event_of e)),
      tally-same
          (λ e. is_kept [] e.what && q (event_of e)) (λ e. q (event_of e)) (to_come plant []) (λ e. ap (λ b. b && q (event_of e)) (all_kept e.what)),
    );
    deferred = λ t at lt held. absurd (none-some at (sym (ap (λ (r : TrainState). r.deferred) (train_is t lt)) ∙ held));
    bound = λ t lt none some left. absurd (omega (arith, some, ap (λ (r : TrainState). r.place) (train_is t lt)));
  };
  heads = record {
    place_counts = λ t lt. subst (λ (r : TrainState). 0 < r.head.place) (sym (train_is t lt)) (omega arith);
    step_counts = λ t lt. subst (λ (r : TrainState). 0 < r.head.step) (sym (train_is t lt)) (omega arith);
    heads = λ t lt. subst (λ (r : TrainState). Rattle.rail_laws_step.specs.Heads.IsHead plant [] t (r.head.place - 1) (r.head.step - 1)) (sym (train_is t lt)) (first_head plant fine t lt);
  };
  waiting = record {
    ready = λ t lt. ap (λ (r : TrainState). r.waits) (train_is t lt) ∙ sym (nobody_ready (input_of dispatch plant) t);
    told = λ t lt. ap (λ (r : TrainState). r.last_hold) (train_is t lt);
    out = λ t lt. ap (λ (r : TrainState). r.is_out) (train_is t lt) ∙ sym (nobody_out t);
  };
  holders = subst (AreHolders plant []) (sym has.holders) (first_holders plant accepted);
  known = record {
    cause = λ t why lt k. absurd (none-some why (sym (ap (λ (r : TrainState). r.known) (train_is t lt)) ∙ k));
    waits = λ t why lt k. absurd (none-some why (sym (ap (λ (r : TrainState). r.known) (train_is t lt)) ∙ k));
    at_first_section = λ t why lt k first blocked. absurd (none-some why (sym (ap (λ (r : TrainState). r.known) (train_is t lt)) ∙ k));
    no_more = λ held t lt waits. absurd (Rattle.std.proofs.lemmas.Bool.false≢true held);
  };
  settled = λ settled t lt waits. absurd (Rattle.std.proofs.lemmas.Bool.false≢true (sym (ap (λ (r : TrainState). r.waits) (train_is t lt)) ∙ waits));
}
  where
    fine : IsWellFormed plant
    fine = well_formed_plant plant accepted

    train_is : (t : ℕ) → t < trains plant → state_of state.trains t ≡ outside plant t
    train_is t lt = ap (λ states. state_of states t) has.trains ∙ get_or-listed (outside plant) (trains plant) t no_state lt

    none_held : (q : Event → Bool) → count_by q (deferred_events plant state.trains) ≡ 0
    none_held q = count-gather_zero q (λ t. deferred_of plant t (state_of state.trains t).place (state_of state.trains t).deferred) (trains plant) (λ t lt. ap (λ (r : TrainState). count_by q (deferred_of plant t r.place r.deferred)) (train_is t lt))

    -- each train has the ready line of its first move to come
    of_train : (q : Event → Bool) (t : ℕ) → t < trains plant → count_by q (train_event (state_of state.trains t).times.next_ready class.Ready t 1 ∷ []) ≡ tally (λ e. q (event_of e)) (train_events plant t [] false)
    of_train q t lt =
        let some : min 1 (moves plant t) ≡ 1 = omega (arith, fine.some_move t lt) in
        omega (
          arith,
          ap (λ (r : TrainState). count_by q (train_event r.times.next_ready class.Ready t 1 ∷ [])) (train_is t lt),
          one,
          ap (λ n. tally (λ e. q (event_of e)) (gather (λ m. ready_line plant t [] m ∷ []) n)) some,
          tally-append (λ e. q (event_of e)) (moved_events plant t []) (ready_events plant t []),
        )
      where
        one : count_by q (train_event (outside plant t).times.next_ready class.Ready t 1 ∷ []) ≡ tally (λ e. q (event_of e)) (gather (λ m. ready_line plant t [] m ∷ []) 1)
        one = omega arith

    ready_lines : (q : Event → Bool) (n : ℕ) → ((t : ℕ) → t < n → t < trains plant) → count_by q (gather (λ t. train_event (state_of state.trains t).times.next_ready class.Ready t 1 ∷ []) n) ≡ sum_below (λ t. tally (λ e. q (event_of e)) (train_events plant t [] false)) n
    ready_lines q zero within = refl
    ready_lines q (suc n) within =
        omega (
          arith,
          count-append q (gather (λ t. train_event (state_of state.trains t).times.next_ready class.Ready t 1 ∷ []) n) (train_event (state_of state.trains n).times.next_ready class.Ready n 1 ∷ []),
          ready_lines q n (λ t lt. within t (omega (arith, lt))),
          of_train q n (within n (omega arith)),
        )
