-- Hold lines of a ledger.
use Rattle.std.proofs.Common.{◌≡◌, ℕ, suc, ◌+◌, ◌<◌, true, false, ◌∷◌, length, Option, Some, None, is_some, refl, sym, ◌∙◌, subst, arith}
use Rattle.std.proofs.lemmas.Bool.{false≢true}
use Rattle.rail_base.specs.declared.history.Cause.{Cause}
use Rattle.rail_base.specs.declared.history.What.TheVariants.{Hold}
use Rattle.rail_rules.specs.Plant.{trains}
use Rattle.rail_rules.specs.Fronts.{Front, Line, has_ended}
use Rattle.rail_rules.specs.Lawful.{is_lawful}
use Rattle.rail_rules.specs.Causes.{is_deciding, place}
use Rattle.rail_state.specs.TrainStates.{lacks_hold_line, state_of}
use Rattle.rail_state.specs.Representation.{AreAllKnown, IsHoldLine, bare_at}
use Rattle.rail_state.proofs.CallerLemmas.{all_told, held, hold_lawful, settled_stands}
use Rattle.rail_ledger.specs.declared.ledger.Ledger.{Ledger}
use Rattle.rail_ledger.specs.Inputs.{dispatch_in, input_in}
use Rattle.rail_ledger.specs.Ledgers.{IsAt, IsHoldDue}
use Rattle.rail_ledger.proofs.Going.{kept_stays, places_stay}
use Rattle.rail_state.specs.declared.run_state.RunState.{RunState}

-- with all that waits told why, all is settled
pub settled_at : (front : Front) (ledger : Ledger) → IsAt front ledger → AreAllKnown ledger.input.plant ledger.state.trains → ((t : ℕ) → lacks_hold_line (state_of ledger.state.trains t) ≡ false) → IsAt front (record ledger { state = record ledger.state { is_settled = true } })
settled_at front ledger at known told = record {
  accepted = at.accepted;
  ordered = at.ordered;
  rep = settled_stands (dispatch_in ledger.input) ledger.input.plant front ledger.state at.rep (all_told ledger.input.plant ledger.state known (λ t lt. told t));
  placed = at.placed;
  keeps = at.keeps;
  queue_room = at.queue_room;
  list_room = at.list_room;
  list_empty = at.list_empty;
  searcher = at.searcher;
  failures = at.failures;
}

-- the hold line of the first train that was not told why it waits
pub held_at : (front : Front) (ledger : Ledger) → IsAt front ledger → ledger.state.has_ended ≡ false → is_deciding (input_in ledger.input) front ≡ true → AreAllKnown ledger.input.plant ledger.state.trains
    → (t : ℕ) → t < length ledger.state.trains → lacks_hold_line (state_of ledger.state.trains t) ≡ true → ((u : ℕ) → u < t → lacks_hold_line (state_of ledger.state.trains u) ≡ false)
    → (why : Cause) → (state_of ledger.state.trains t).known ≡ Some why
    → (after : RunState) → IsHoldLine ledger.input.plant t ledger.state after
    → length after.queue.events + after.queue.spare ≡ length ledger.state.queue.events + ledger.state.queue.spare
    → IsAt (bare_at ledger.state.instant (Hold t ((state_of ledger.state.trains t).place + 1) why) ∷ front) (record ledger { state = after })
held_at front ledger at going deciding known t in_list lacks first why is after has room =
    let still : has_ended front ≡ false = sym at.rep.ended ∙ going in
    let lt : t < trains ledger.input.plant = omega (arith, in_list, at.rep.times.many) in
    let number : (state_of ledger.state.trains t).place + 1 ≡ suc (place front t) = omega (arith, at.rep.times.places t lt) in
    let line : Line = bare_at ledger.state.instant (Hold t (suc (place front t)) why) in
    subst (λ m. IsAt (bare_at ledger.state.instant (Hold t m why) ∷ front) (record ledger { state = after })) (sym number)
    (record {
      accepted = at.accepted;
      ordered = at.ordered;
      rep = held (dispatch_in ledger.input) ledger.input.plant front ledger.state at.rep still deciding known t lt why is lacks first after has;
      placed = places_stay ledger.input.plant line front ledger.places refl at.placed;
      keeps = kept_stays ledger.input.plant line front ledger.kept refl at.keeps;
      queue_room = room ∙ at.queue_room;
      list_room = at.list_room;
      list_empty = λ open_still. at.list_empty still;
      searcher = at.searcher;
      failures = at.failures;
    })

-- its line may follow
pub hold_next : (front : Front) (ledger : Ledger) → IsAt front ledger → (t : ℕ) → IsHoldDue ledger t → (why : Cause) → (state_of ledger.state.trains t).known ≡ Some why
    → is_lawful (input_in ledger.input) (bare_at ledger.state.instant (Hold t ((state_of ledger.state.trains t).place + 1) why) ∷ front) ≡ true
hold_next front ledger at t due why is =
    let lt : t < trains ledger.input.plant = omega (arith, due.train, at.rep.times.many) in
    let number : (state_of ledger.state.trains t).place + 1 ≡ suc (place front t) = omega (arith, at.rep.times.places t lt) in
    subst (λ m. is_lawful (input_in ledger.input) (bare_at ledger.state.instant (Hold t m why) ∷ front) ≡ true) (sym number)
    (hold_lawful (dispatch_in ledger.input) ledger.input.plant front ledger.state at.rep (sym at.rep.ended ∙ due.going) (due.deciding front at) due.known t lt why is due.lacks due.first)

-- a cause that is known
pub known_why : (o : Option Cause) → is_some o ≡ true → (why : Cause) × (o ≡ Some why)
known_why None h = absurd (false≢true h)
known_why (Some why) h = (why, refl)
