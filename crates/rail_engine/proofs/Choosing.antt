-- The train that is picked is one that the policy in force chooses.
use Rattle.std.proofs.Common.{◌≡◌, ℕ, suc, ◌+◌, ◌-◌, ◌%◌, ◌<◌, ◌≤◌, Bool, true, false, List, [], ◌∷◌, length, get_or, Some, refl, sym, ap, ◌∙◌, subst, arith}
use Rattle.std.proofs.lemmas.Option.{get_or_from_slice_get, slice_get_within}
use Rattle.rail_base.specs.declared.orders.PolicyKind.{PolicyKind}
use Rattle.rail_base.specs.declared.orders.PolicyKind.TheVariants.{Priority, Timetable, Fcfs, Rotating, Custom}
use Rattle.rail_rules.specs.Causes.{is_deciding, place}
use Rattle.rail_rules.specs.Fronts.{Front, admissions}
use Rattle.rail_rules.specs.Numbers.{comes_before}
use Rattle.rail_rules.specs.Plant.{moves, train, trains}
use Rattle.rail_rules.specs.RunHistories.{Seat, due, force_of, is_chosen, key, mark_of, seat_of}
use Rattle.rail_rules.specs.Times.{ready}
use Rattle.rail_policy.specs.declared.offer.Offer.{Offer}
use Rattle.rail_policy.specs.Desks.{Table, seat_in_force}
use Rattle.rail_policy.specs.Keys.{goes_before, offer_key}
use Rattle.rail_policy.specs.Seats.{no_seat}
use Rattle.rail_state.specs.TrainStates.{state_of}
use Rattle.rail_state.proofs.CallerLemmas.{carried_ready, chosen_obeys}
use Rattle.rail_ledger.specs.declared.ledger.Ledger.{Ledger}
use Rattle.rail_ledger.specs.Inputs.{dispatch_in, input_in}
use Rattle.rail_ledger.specs.Ledgers.{IsAt}
use Rattle.rail_ledger.proofs.CallerLemmas.{left_of, place_fits}
use Rattle.rail_engine.specs.PolicyTurns.{offer_at}
use Rattle.rail_engine.specs.Desks.{IsBox, IsDesk}
use Rattle.rail_engine.specs.Rounds.{AreOffers, IsOfferOf, IsPicked, offer_in}

-- a train that waits has a move left, and its number fits
pub place_left : (front : Front) (ledger : Ledger) → IsAt front ledger → (t : ℕ) → t < length ledger.state.trains → (state_of ledger.state.trains t).waits ≡ true
    → ((state_of ledger.state.trains t).place < moves ledger.input.plant t) × (suc (state_of ledger.state.trains t).place < 65536)
place_left front ledger at t lt waits =
    let known : t < trains ledger.input.plant = omega (arith, lt, at.rep.times.many) in
    (omega (arith, at.rep.times.places t known, left_of front ledger at t waits), omega (arith, at.rep.times.places t known, place_fits front ledger at t known))

module _ (front : Front) (ledger : Ledger) (at : IsAt front ledger) where
  -- what is offered of a train that waits is its next move after the front
  pub offer_is : (t : ℕ) → t < length ledger.state.trains → (state_of ledger.state.trains t).waits ≡ true → offer_in ledger t ≡ offer_at (input_in ledger.input) front t
  offer_is t lt waits = λ i. record {
    train = t;
    place = suc (place_is i);
    priority = at.ordered.priorities t known i;
    entry = (train ledger.input.plant t).entry;
    due = due ledger.input.plant t (place_is i);
    ready = ready_is i;
  }
    where
      known : t < trains ledger.input.plant
      known = omega (arith, lt, at.rep.times.many)

      place_is : (state_of ledger.state.trains t).place ≡ place front t
      place_is = at.rep.times.places t known

      ready_is : (state_of ledger.state.trains t).times.next_ready ≡ ready ledger.input.plant t (admissions front t) (place front t)
      ready_is = ap (λ times. times.next_ready) (at.rep.times.times t known)
          ∙ carried_ready ledger.input.plant t (admissions front t) (place front t) (left_of front ledger at t waits)

module _ (front : Front) (ledger : Ledger) (at : IsAt front ledger) (seats : List Seat) where
  -- the key of an offer is that of its train
  key_is : (t : ℕ) → t < length ledger.state.trains → (state_of ledger.state.trains t).waits ≡ true → (kind : PolicyKind) (mark : ℕ)
      → (kind ≡ Rotating → mark ≡ mark_of (input_in ledger.input) seats (force_of (input_in ledger.input) front) front)
      → offer_key kind mark (offer_in ledger t) ≡ key (input_in ledger.input) seats front t kind
  key_is t lt waits kind mark marked = ap (offer_key kind mark) (offer_is front ledger at t lt waits) ∙ by kind marked
    where
      by : (kind : PolicyKind) → (kind ≡ Rotating → mark ≡ mark_of (input_in ledger.input) seats (force_of (input_in ledger.input) front) front)
          → offer_key kind mark (offer_at (input_in ledger.input) front t) ≡ key (input_in ledger.input) seats front t kind
      by Priority marked = refl
      by Timetable marked = refl
      by Fcfs marked = refl
      by Rotating marked = ap (λ n. (t + 65536 - n) % 65536 ∷ []) (marked refl)
      by Custom marked = refl

  module _ (table : Table) (desk : IsDesk (input_in ledger.input) seats front table) where
    box : IsBox (input_in ledger.input) seats front (seat_in_force table)
    box = desk.boxes table.force no_seat desk.in_range

    -- the policy in force has the kind of the front
    pub kind_is : (seat_in_force table).kind ≡ (seat_of seats (force_of (input_in ledger.input) front)).kind
    kind_is = box.kind ∙ ap (λ name. (seat_of seats name).kind) desk.in_force

    marked : (seat_in_force table).kind ≡ Rotating → (seat_in_force table).mark ≡ mark_of (input_in ledger.input) seats (force_of (input_in ledger.input) front) front
    marked rotates = box.mark rotates ∙ ap (λ name. mark_of (input_in ledger.input) seats name front) desk.in_force

    -- the train that is picked is chosen
    pub picked_chosen : is_deciding (input_in ledger.input) front ≡ true → (offers rest : List Offer) (t : ℕ) → AreOffers ledger offers
        → IsPicked (seat_in_force table).kind (seat_in_force table).mark offers rest t → is_chosen (input_in ledger.input) seats front t ≡ true
    picked_chosen deciding offers rest t are picked =
        chosen_obeys (dispatch_in ledger.input) ledger.input.plant front ledger.state at.rep deciding seats t (λ u lt untried.
        let u_lt : u < length ledger.state.trains = omega (arith, lt, at.rep.times.many) in
        let there = are.untried u u_lt untried in
        let waits_u = (Rattle.std.proofs.lemmas.Bool.and_parts (state_of ledger.state.trains u).waits (Rattle.std.proofs.Common.not (Rattle.std.proofs.Common.is_some (state_of ledger.state.trains u).known)) untried).0 in
        let before : goes_before kind mark (offer_in ledger u) (offer_in ledger t) ≡ false =
        ap (λ (o : Offer). goes_before kind mark o (offer_in ledger t)) (sym there.2)
        ∙ ap (λ (o : Offer). goes_before kind mark (get_or offers there.0 (offer_in ledger u)) o) (sym chosen_is)
        ∙ picked.least.least there.0 (offer_in ledger u) there.1 in
        ap (λ k. comes_before (key (input_in ledger.input) seats front u k) (key (input_in ledger.input) seats front t k)) (sym kind_is)
        ∙ ap (λ n. comes_before n (key (input_in ledger.input) seats front t kind)) (sym (key_is u u_lt waits_u kind mark marked))
        ∙ ap (λ n. comes_before (offer_key kind mark (offer_in ledger u)) n) (sym (key_is t t_lt waits_t kind mark marked))
        ∙ before)
      where
        kind : PolicyKind
        kind = (seat_in_force table).kind

        mark : ℕ
        mark = (seat_in_force table).mark

        inside : picked.place < length offers
        inside = slice_get_within offers picked.place picked.least.chosen picked.least.there

        fits : IsOfferOf ledger picked.least.chosen
        fits = subst (IsOfferOf ledger) (get_or_from_slice_get offers picked.place picked.least.chosen picked.least.chosen picked.least.there) (are.each picked.place picked.least.chosen inside)

        chosen_is : picked.least.chosen ≡ offer_in ledger t
        chosen_is = fits.fits ∙ ap (offer_in ledger) picked.train

        t_lt : t < length ledger.state.trains
        t_lt = subst (λ n. n < length ledger.state.trains) picked.train fits.known

        waits_t : (state_of ledger.state.trains t).waits ≡ true
        waits_t = ap (λ n. (state_of ledger.state.trains n).waits) (sym picked.train) ∙ fits.waits
