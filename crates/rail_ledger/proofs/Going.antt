-- The next event happens, or the ledger ends.
use Rattle.std.proofs.Common.{◌≡◌, ℕ, ◌+◌, true, false, not, ◌||◌, List, [], ◌∷◌, get_or, length, vec_capacity, Some, refl, sym, ap, ◌∙◌, subst, ◌⊎◌, inl, inr, ⊎_elim, arith}
use Rattle.std.specs.List.{filter, list_any}
use Rattle.std.specs.Option.{option_map_or}
use Rattle.std.specs.Global.{Vec}
use Rattle.std.proofs.lemmas.Bool.{false≢true}
use Rattle.rail_base.specs.declared.history.What.{What}
use Rattle.rail_base.specs.declared.history.What.TheVariants.{Free, Arrive, Enter, Out, Ready, Told, Untold, Admit, Hold, End}
use Rattle.rail_rules.specs.Numbers.{listed}
use Rattle.rail_rules.specs.Plant.{Plant, trains}
use Rattle.rail_rules.specs.Fronts.{Front, Line, at_time, has_ended, is_admission, is_hold, kept}
use Rattle.rail_rules.specs.Lawful.{is_lawful}
use Rattle.rail_laws_front.proofs.CallerLemmas.{kept_idle, places_idle, told_kept}
use Rattle.rail_place.specs.PlaceStates.{State}
use Rattle.rail_list.specs.KeptLists.{Kept}
use Rattle.rail_queue.specs.declared.event.Event.{Event}
use Rattle.rail_queue.specs.declared.event.Class.TheVariants as class
use Rattle.rail_queue.specs.Order.{first_time_of, goes_before}
use Rattle.rail_queue.specs.Queue.{Queue}
use Rattle.rail_state.specs.TrainStates.{state_after, state_of}
use Rattle.rail_state.specs.Representation.{IsReadyFor, Represents, StaysSettled, bare_at, holders_after, left_of, what_of}
use Rattle.rail_rules.specs.Orders.{is_cancelled, told}
use Rattle.rail_state.proofs.CallerLemmas.{end_lawful, ended, event_idle, event_lawful, happened, kind, ready_for, same_pass}
use Rattle.rail_ledger.specs.declared.ledger.Ledger.{Ledger}
use Rattle.rail_ledger.specs.declared.ledger.Listed.TheVariants as listed
use Rattle.rail_base.specs.declared.orders.Order.{Order}
use Rattle.rail_laws_events.specs.Accounts.{is_train_event}
use Rattle.rail_orders.specs.OrderTables.{AreOrders}
use Rattle.rail_ledger.specs.Inputs.{dispatch_in, input_in}
use Rattle.rail_ledger.specs.Ledgers.{ArePlaces, IsAt, IsKept, IsNextLine, IsOther, MayGoOn}
use Rattle.rail_state.specs.declared.run_state.RunState.{RunState}

pub some_inside : {a b : ℕ} → Some a ≡ Some b → a ≡ b
some_inside e = ap (λ o. option_map_or (λ n. n) o 0) e

-- a line that admits nothing leaves the places and the kept list
pub places_stay : (plant : Plant) (line : Line) (front : Front) (state : State) → is_admission line.entry.what ≡ false → ArePlaces plant front state → ArePlaces plant (line ∷ front) state
places_stay plant line front state idle are = record {
  positions = are.positions ∙ sym (places_idle plant line front idle);
  room = are.room;
  counted = are.counted;
  told = are.told;
}

pub kept_stays : (plant : Plant) (line : Line) (front : Front) (list : Kept) → is_admission line.entry.what ≡ false → IsKept plant front list → IsKept plant (line ∷ front) list
kept_stays plant line front list idle is = record {
  is_list = is.is_list ∙ sym (kept_idle plant (kept plant front) line line.entry.what idle);
  room = is.room;
}

module _ (front : Front) (ledger : Ledger) (at : IsAt front ledger) (going : ledger.state.has_ended ≡ false) (may : MayGoOn ledger) (event : Event) (rest : List Event)
    (first : ledger.state.queue.events ≡ event ∷ rest) (least : list_any (λ other. goes_before other event) ledger.state.queue.events ≡ false) (of_train : event.class ≡ class.Command → ⊥) where
  still : has_ended front ≡ false
  still = sym at.rep.ended ∙ going

  goes : (ledger.state.is_settled ≡ true) ⊎ (event.at ≡ ledger.state.instant)
  goes = ⊎_elim inl (λ now. inr (some_inside (sym (ap first_time_of first) ∙ now))) may

  pub ready_now : (queue : Queue) → IsReadyFor ledger.input.plant (record ledger.state { queue = queue }) event
  ready_now queue =
      let r = ready_for (dispatch_in ledger.input) ledger.input.plant front ledger.state at.rep still event rest first least goes of_train in
      record {
        known_train = r.known_train;
        no_command = r.no_command;
        section = r.section;
        holder = r.holder;
        place_counts = r.place_counts;
        place_within = r.place_within;
        step_counts = r.step_counts;
        step_within = r.step_within;
      }

  kind_now : is_train_event (what_of ledger.input.plant ledger.state.trains event) ≡ true
  kind_now = kind (dispatch_in ledger.input) ledger.input.plant front ledger.state at.rep still event rest first least goes of_train

  pub idle_now : is_admission (what_of ledger.input.plant ledger.state.trains event) ≡ false
  idle_now = event_idle (what_of ledger.input.plant ledger.state.trains event) kind_now

  no_hold_now : is_hold (what_of ledger.input.plant ledger.state.trains event) ≡ false
  no_hold_now = of (what_of ledger.input.plant ledger.state.trains event) kind_now
    where
      of : (w : What) → is_train_event w ≡ true → is_hold w ≡ false
      of (Free x t) h = refl
      of (Arrive t m) h = refl
      of (Enter t m x) h = refl
      of (Out t) h = refl
      of (Ready t m) h = refl
      of (Told k) h = refl
      of (Untold k) h = refl
      of (Admit t m note) h = refl
      of (Hold t m why) h = absurd (false≢true h)
      of End h = refl

  -- its line may follow
  pub event_next : IsOther (at_time event.at (what_of ledger.input.plant ledger.state.trains event))
      × (is_lawful (input_in ledger.input) (bare_at event.at (what_of ledger.input.plant ledger.state.trains event) ∷ front) ≡ true)
  event_next = ((idle_now, no_hold_now), event_lawful (dispatch_in ledger.input) ledger.input.plant front ledger.state at.rep still event rest first least goes of_train)

  pub happened_at : (after : RunState)
      → after.queue.events ≡ rest → after.queue.spare ≡ ledger.state.queue.spare + 1
      → after.holders ≡ holders_after (what_of ledger.input.plant ledger.state.trains event) ledger.state.holders
      → length after.trains ≡ length ledger.state.trains
      → ((t : ℕ) → state_of after.trains t ≡ state_after ledger.input.plant (what_of ledger.input.plant ledger.state.trains event) t (state_of ledger.state.trains t))
      → after.instant ≡ event.at → after.has_ended ≡ ledger.state.has_ended
      → (after.is_settled ≡ true → (ledger.state.is_settled ≡ true) × StaysSettled ledger.input.plant ledger.state.trains (what_of ledger.input.plant ledger.state.trains event))
      → IsAt (bare_at event.at (what_of ledger.input.plant ledger.state.trains event) ∷ front) (record ledger { state = after })
  happened_at after events spare holders many states time goes_on stays =
      let line : Line = bare_at event.at (what_of ledger.input.plant ledger.state.trains event) in
      record {
        accepted = at.accepted;
        ordered = subst (λ (orders : List Order). AreOrders ledger.input.plant ledger.input.deck.items ledger.input.force orders ledger.orders)
            (sym (told_kept ledger.input.commands.items line front (λ k is. false≢true (ap is_train_event (sym is) ∙ kind_now)))) at.ordered;
        rep = happened (dispatch_in ledger.input) ledger.input.plant front ledger.state at.rep still event rest first least goes of_train after (record {
          events = first ∙ ap (λ list. event ∷ list) (sym events);
          holders = holders;
          many = many;
          trains = λ t lt. states t;
          time = time;
          going = goes_on;
          settled = stays;
        });
        placed = places_stay ledger.input.plant line front ledger.places idle_now at.placed;
        keeps = kept_stays ledger.input.plant line front ledger.kept idle_now at.keeps;
        queue_room = omega (arith, at.queue_room, ap length first, ap length events, spare);
        list_room = at.list_room;
        list_empty = λ open_still. at.list_empty still;
        searcher = at.searcher;
        failures = at.failures;
      }

-- the trains that are neither out nor cancelled, by what is kept
abbrev pub left_in : Ledger → List ℕ
left_in ledger = filter (λ t. not ((state_of ledger.state.trains t).is_out || get_or ledger.orders.cancelled t false)) (listed (λ t. t) (length ledger.state.trains))

left_is : (front : Front) (ledger : Ledger) → IsAt front ledger → left_in ledger ≡ left_of (dispatch_in ledger.input) ledger.input.plant front ledger.state.trains
left_is front ledger at =
    ap (λ n. filter (λ t. not ((state_of ledger.state.trains t).is_out || get_or ledger.orders.cancelled t false)) (listed (λ t. t) n)) at.rep.times.many
    ∙ same_pass (λ t. not ((state_of ledger.state.trains t).is_out || get_or ledger.orders.cancelled t false))
    (λ t. not ((state_of ledger.state.trains t).is_out || is_cancelled t (told ledger.input.commands.items front))) (trains ledger.input.plant)
    (λ t lt. ap (λ b. not ((state_of ledger.state.trains t).is_out || b)) (at.ordered.cancelled t lt))

-- with no event pending, and all that waits told why, the end line may follow, with these trains
pub end_next : (ledger : Ledger) → ledger.state.has_ended ≡ false → ledger.state.is_settled ≡ true → ledger.state.queue.events ≡ []
    → (list : List ℕ) → list ≡ left_in ledger → IsNextLine ledger (record { entry = at_time ledger.state.instant End; trains = list })
end_next ledger going settled empty list is = record {
  kind = (refl, refl);
  lawful = λ front at.
      subst (λ (named : List ℕ). is_lawful (input_in ledger.input) (record { entry = at_time ledger.state.instant End; trains = named } ∷ front) ≡ true)
      (sym (is ∙ left_is front ledger at))
      (end_lawful (dispatch_in ledger.input) ledger.input.plant front ledger.state at.rep (sym at.rep.ended ∙ going) settled empty);
}

-- the end line names the trains that are left
pub ended_at : (front : Front) (ledger : Ledger) → IsAt front ledger → ledger.state.has_ended ≡ false → ledger.state.is_settled ≡ true → ledger.state.queue.events ≡ []
    → (remaining : Vec ℕ) → vec_capacity remaining ≡ vec_capacity ledger.remaining → remaining.items ≡ left_in ledger
    → IsAt (record { entry = at_time ledger.state.instant End; trains = remaining.items } ∷ front) (record ledger { remaining = remaining; listed = listed.Remaining; state = record ledger.state { has_ended = true } })
ended_at front ledger at going settled empty remaining room is =
    let still : has_ended front ≡ false = sym at.rep.ended ∙ going in
    let left : remaining.items ≡ left_of (dispatch_in ledger.input) ledger.input.plant front ledger.state.trains = is ∙ left_is front ledger at in
    let after : RunState = record ledger.state { has_ended = true } in
    let line : Line = record { entry = at_time ledger.state.instant End; trains = remaining.items } in
    record {
      accepted = at.accepted;
      ordered = at.ordered;
      rep = subst (λ list. Represents (dispatch_in ledger.input) ledger.input.plant (record { entry = at_time ledger.state.instant End; trains = list } ∷ front) after) (sym left)
          (ended (dispatch_in ledger.input) ledger.input.plant front ledger.state at.rep still settled empty after (record { events = refl; trains = refl; holders = refl; time = refl; ended = refl }));
      placed = places_stay ledger.input.plant line front ledger.places refl at.placed;
      keeps = kept_stays ledger.input.plant line front ledger.kept refl at.keeps;
      queue_room = at.queue_room;
      list_room = room ∙ at.list_room;
      list_empty = λ open_still. absurd (false≢true (sym open_still));
      searcher = at.searcher;
      failures = at.failures;
    }
