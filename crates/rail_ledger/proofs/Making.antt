-- The admission of a move.
use Rattle.std.proofs.Common.{◌≡◌, ℕ, zero, suc, ◌+◌, ◌<◌, ◌≤◌, true, false, List, [], ◌∷◌, ◌++◌, length, Option, Some, refl, sym, ap, ◌∙◌, subst, arith}
use Rattle.std.specs.Prelude.{◌^◌, nat_lt}
use Rattle.std.proofs.lemmas.Bool.{ltb-true, cond_both, false≢true}
use Rattle.rail_base.specs.declared.history.Note.{Note}
use Rattle.rail_base.specs.declared.history.Note.TheVariants.{Pulled, Appended, Fresh}
use Rattle.rail_rules.specs.Accepted.{is_accepted_input}
use Rattle.rail_rules.specs.Plant.{Plant, moves, moves_of, trains}
use Rattle.rail_rules.specs.Times.{free_run, ready, stop_time}
use Rattle.rail_rules.specs.Fronts.{Front, Line, admissions, has_ended, instant, kept, places}
use Rattle.rail_rules.specs.Causes.{is_deciding, place}
use Rattle.rail_rules.specs.Lawful.{is_lawful}
use Rattle.rail_laws_front.proofs.CallerLemmas.{admission_added, places_raised, length_added}
use Rattle.rail_laws_events.proofs.CallerLemmas.{times_below}
use Rattle.rail_laws_step.specs.TimeLimits.{StaysBelow}
use Rattle.rail_laws_step.proofs.CallerLemmas.{stays_below, ready_is_past}
use Rattle.rail_block.specs.declared.times.MoveTimes.{MoveTimes}
use Rattle.rail_block.specs.CarriedTimes.{AreBelow, times_at}
use Rattle.rail_cores.specs.declared.searcher.Searcher.{Searcher}
use Rattle.rail_list.specs.Failures.{Failed}
use Rattle.rail_list.specs.KeptLists.{Kept}
use Rattle.rail_place.specs.PlaceStates.{State}
use Rattle.rail_state.specs.Representation.{IsAdmissible, IsAdmitLine, MayKeep, admit_line, list_for}
use Rattle.rail_state.proofs.CallerLemmas.{admitted_line, kept_is, lawful_line, left_of_ready, ready_it, well_formed_plant, carried_ready}
use Rattle.rail_ledger.specs.declared.ledger.Ledger.{Ledger}
use Rattle.rail_state.specs.Admissions.{IsGivable}
use Rattle.rail_state.specs.TrainStates.{state_of}
use Rattle.rail_ledger.specs.Ledgers.{AreAlike, HasList, IsAt, list_with, listed_in}
use Rattle.rail_ledger.proofs.Room.{moves_fit}
use Rattle.rail_rules.specs.Orders.{Input}
use Rattle.rail_ledger.specs.Inputs.{dispatch_in, input_in}
use Rattle.rail_state.specs.declared.run_state.RunState.{RunState}

below_of : (plant : Plant) (t : ℕ) (adms : List ℕ) (p : ℕ) → p ≤ length adms → 0 < moves plant t → StaysBelow (2 ^ 51) plant t adms → AreBelow (2 ^ 51) (times_at plant t adms p)
below_of plant t adms zero le some stays = record {
  admitted = omega arith;
  go = omega arith;
  free_run = stays.run zero (omega arith);
  next_ready = stays.readies zero (omega arith) some;
}
below_of plant t adms (suc m) le some stays = record {
  admitted = stays.admission m;
  go = stays.goes m le;
  free_run = stays.run (suc m) le;
  next_ready = cond_both (nat_lt (suc m) (moves plant t)) (ready plant t adms (suc m)) (free_run plant t adms (suc m)) (λ x. x < 2 ^ 51)
      (λ left. stays.readies (suc m) le (ltb-true (suc m) (moves plant t) left))
      (λ last. stays.run (suc m) le);
}

-- an arrival that is deferred is small
pub deferred_soon : (front : Front) (ledger : Ledger) → IsAt front ledger → (t at : ℕ) → t < trains ledger.input.plant → (state_of ledger.state.trains t).deferred ≡ Some at → at < 2 ^ 53
deferred_soon front ledger here t at known held = of (place front t) refl
  where
    below : StaysBelow (2 ^ 51) ledger.input.plant t (admissions front t)
    below = stays_below (input_in ledger.input) here.accepted front t here.rep.lawful known

    of : (p : ℕ) → place front t ≡ p → at < 2 ^ 53
    of zero is = absurd (omega (arith, (here.rep.pending.deferred t at known held).begun, here.rep.times.places t known, is))
    of (suc m) is =
        omega (
          arith,
          (here.rep.pending.deferred t at known held).stops,
          ap (λ (ts : MoveTimes). stop_time ledger.input.plant t ts.free_run) (here.rep.times.times t known ∙ ap (times_at ledger.input.plant t (admissions front t)) is),
          below.stops m (omega (arith, is)),
        )

-- the instant of a decision is small
instant_small : (input : Input) (front : Front) → is_accepted_input input ≡ true → is_lawful input front ≡ true → is_deciding input front ≡ true → instant front < 2 ^ 50
instant_small input [] accepted lawful deciding = absurd (false≢true deciding)
instant_small input (line ∷ before) accepted lawful deciding = times_below input accepted line before lawful

module _ (front : Front) (ledger : Ledger) (at : IsAt front ledger) (going : ledger.state.has_ended ≡ false)
    (deciding : is_deciding (input_in ledger.input) front ≡ true) (t : ℕ) (next : IsAdmissible (dispatch_in ledger.input) ledger.input.plant front ledger.state.holders ledger.state.trains t)
    (note : Note) (list : List ℕ) (noted : MayKeep (moves_of ledger.input.plant) (places ledger.input.plant front) (kept ledger.input.plant front) t note list) where
  still : has_ended front ≡ false
  still = sym at.rep.ended ∙ going

  abbrev pub line : Line
  line = admit_line ledger.state.instant t (suc (place front t)) note list

  lawful_after : is_lawful (input_in ledger.input) (line ∷ front) ≡ true
  lawful_after = lawful_line (dispatch_in ledger.input) ledger.input.plant front ledger.state at.rep still deciding t next note list noted

  left : place front t < moves ledger.input.plant t
  left = left_of_ready (dispatch_in ledger.input) ledger.input.plant front t (ready_it (dispatch_in ledger.input) ledger.input.plant front ledger.state at.rep still deciding t next note list noted)

  added : admissions (line ∷ front) t ≡ admissions front t ++ ledger.state.instant ∷ []
  added = admission_added line front t (suc (place front t)) note refl

  pub givable : IsGivable ledger.input.plant front ledger.state.trains ledger.state.instant t
  givable = record {
    many = at.rep.times.many;
    known = next.known_train;
    left = left;
    few = omega (arith, moves_fit ledger.input.plant at.rep.accepted t next.known_train);
    place_is = at.rep.times.places t next.known_train;
    times_are = at.rep.times.times t next.known_train;
    below = subst (AreBelow (2 ^ 51)) (sym (at.rep.times.times t next.known_train))
        (below_of ledger.input.plant t (admissions front t) (place front t) (omega arith) (omega (arith, left)) (stays_below (input_in ledger.input) at.accepted front t at.rep.lawful next.known_train));
    below_next = below_of ledger.input.plant t (admissions front t ++ ledger.state.instant ∷ []) (suc (place front t)) (omega (arith, length_added (admissions front t) ledger.state.instant)) (omega (arith, left))
        (subst (StaysBelow (2 ^ 51) ledger.input.plant t) added (stays_below (input_in ledger.input) at.accepted (line ∷ front) t lawful_after next.known_train));
    soon = omega (arith, at.rep.time, instant_small (input_in ledger.input) front at.accepted at.rep.lawful deciding);
    ready = omega (
      arith,
      ap (λ (ts : MoveTimes). ts.next_ready) (at.rep.times.times t next.known_train),
      carried_ready ledger.input.plant t (admissions front t) (place front t) left,
      ready_is_past (input_in ledger.input) (well_formed_plant ledger.input.plant at.rep.accepted) front t at.rep.lawful (ready_it (dispatch_in ledger.input) ledger.input.plant front ledger.state at.rep still deciding t next note list noted),
      at.rep.time,
    );
  }

  -- the ledger stands for the front with the line of the admission
  pub admitted_at : (P : State) (K : Kept) (W : Searcher) (F : Failed) (after : RunState)
      → HasList front ledger (record ledger { places = P; kept = K; searcher = W; failures = F }) t note → K.trains ≡ list
      → length after.queue.events + after.queue.spare ≡ length ledger.state.queue.events + ledger.state.queue.spare
      → (times : MoveTimes) (arrival : Option ℕ) → IsAdmitLine ledger.input.plant front t times arrival ledger.state after
      → IsAt (line ∷ front) (record ledger { places = P; kept = K; searcher = W; failures = F; state = after; listed = list_with note })
  admitted_at P K W F after has is_list room times arrival admits = record {
    accepted = at.accepted;
    ordered = at.ordered;
    rep = admitted_line (dispatch_in ledger.input) ledger.input.plant front ledger.state at.rep still deciding t next note list noted times arrival after admits;
    placed = record {
      positions = has.positions ∙ sym (places_raised ledger.input.plant line front t (suc (place front t)) note refl next.known_train);
      room = has.room;
      counted = has.counted;
      told = has.told;
    };
    keeps = record { is_list = is_list ∙ sym (kept_is (dispatch_in ledger.input) ledger.input.plant front ledger.state at.rep still deciding t next note list noted); room = has.list_room };
    queue_room = room ∙ at.queue_room;
    list_room = at.list_room;
    list_empty = λ open_still. at.list_empty still;
    searcher = has.searcher;
    failures = has.failures;
  }

-- the list on the line of an admission
pub listed_with : (note : Note) (kept_list remaining : List ℕ) → listed_in (list_with note) kept_list remaining ≡ list_for note kept_list
listed_with Pulled kept_list remaining = refl
listed_with Appended kept_list remaining = refl
listed_with Fresh kept_list remaining = refl

-- a ledger that differs in places, kept list, searcher and failures alone
pub alike_ledger : (old mid : Ledger) → AreAlike old mid → mid.state.trains ≡ old.state.trains → mid ≡ record old { places = mid.places; kept = mid.kept; searcher = mid.searcher; failures = mid.failures }
alike_ledger old mid alike trains = λ i. record {
  input = alike.input i;
  orders = alike.orders i;
  state = record { queue = alike.queue i; trains = trains i; holders = alike.holders i; instant = alike.instant i; is_settled = alike.is_settled i; has_ended = alike.has_ended i };
  places = mid.places;
  kept = mid.kept;
  reader = alike.reader i;
  searcher = mid.searcher;
  failures = mid.failures;
  remaining = alike.remaining i;
  listed = alike.listed i;
}
