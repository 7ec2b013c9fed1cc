-- What the policy in force was asked about, and that it was asked before a train was admitted.
use Rattle.std.proofs.Common.{◌≡◌, ℕ, zero, suc, ◌+◌, ◌%◌, ◌<◌, ◌≤◌, Bool, true, false, not, cond, is_some, List, [], ◌∷◌, length, Option, Some, None, refl, sym, ap, ◌∙◌, subst, inr, ⊎_elim, arith}
use Rattle.std.specs.Prelude.{IfSome, slice_get}
use Rattle.std.specs.List.{Contains, remove}
use Rattle.std.specs.Option.{option_map}
use Rattle.std.proofs.lemmas.Bool.{and_parts, cases_Bool, cond-false, cond-true, false_from_ne_true, false≢true}
use Rattle.std.proofs.lemmas.List.{get_or-set_same, get_or_default, length-set}
use Rattle.std.proofs.lemmas.List.Edits.{length-remove}
use Rattle.std.proofs.lemmas.Option.{get_or_from_slice_get, slice_get_within}
use Rattle.rail_base.specs.declared.history.Entry.{Entry}
use Rattle.rail_base.specs.declared.history.Note.{Note}
use Rattle.rail_base.specs.declared.history.What.{What}
use Rattle.rail_base.specs.declared.history.What.TheVariants.{Admit}
use Rattle.rail_base.specs.declared.limits.TheConstants.{TRAINS}
use Rattle.rail_base.specs.declared.orders.Order.{Order}
use Rattle.rail_base.specs.declared.orders.PolicyKind.TheVariants.{Custom}
use Rattle.rail_rules.specs.Causes.{could_go, is_deciding, is_ready}
use Rattle.rail_rules.specs.Fronts.{Front, is_admission, is_hold}
use Rattle.rail_rules.specs.Numbers.{gather, sum_below}
use Rattle.rail_rules.specs.Orders.{orders_of}
use Rattle.rail_rules.specs.Plant.{trains}
use Rattle.rail_rules.specs.RunHistories.{Seat}
use Rattle.rail_rules.proofs.CallerLemmas.{gather_same}
use Rattle.rail_policy.specs.declared.offer.Offer.{Offer}
use Rattle.rail_policy.specs.Desks.{Table, after_note, after_turn, seat_in_force, within}
use Rattle.rail_policy.specs.Seats.{DeskSeat, asked, mark_when_asked, mark_when_noted, no_seat, noted}
use Rattle.rail_state.specs.declared.train.TrainState.{TrainState}
use Rattle.rail_state.specs.TrainStates.{is_untried, state_of}
use Rattle.rail_state.proofs.CallerLemmas.{could_go-untried}
use Rattle.rail_ledger.specs.declared.input.RunInput.{RunInput}
use Rattle.rail_ledger.specs.declared.ledger.Ledger.{Ledger}
use Rattle.rail_ledger.specs.declared.ledger.Listed.TheVariants as listed
use Rattle.rail_ledger.specs.Inputs.{dispatch_in, input_in}
use Rattle.rail_ledger.specs.Ledgers.{IsAdmissionOf, IsAt, StandsAsBefore}
use Rattle.rail_ledger.proofs.CallerLemmas.{hold_none}
use Rattle.rail_engine.specs.PolicyTurns.{AdmitsNobody, AllChoose, AsksFirst, IsTurn, TakesTurns, TellsDesk, TellsDesks, WasAsked, after_turns, left_after, offer_at, offers_at}
use Rattle.rail_engine.specs.Desks.{IsDesk, after_orders}
use Rattle.rail_engine.specs.Engines.{StandsFor}
use Rattle.rail_engine.specs.Rounds.{AreOffers, HasTriedTrain, IsOfferOf, is_offered, offer_in, offers_in}
use Rattle.rail_engine.proofs.Choosing.{offer_is}
use Rattle.rail_engine.proofs.Continuing.{hold_tells}
use Rattle.rail_engine.proofs.Trying.{left_there, offer_same}

-- the train of the offer does not wait without a known cause
abbrev pub IsTried : Ledger → Offer → Type 0
IsTried ledger offer = (offer.train < length ledger.state.trains) × (is_untried (state_of ledger.state.trains offer.train) ≡ false)

-- a custom policy in force has counted so many turns
pub record HasCounted (before now : Table) (turns : ℕ) : Type 0 where
  pub force : now.force ≡ before.force
  pub many : length now.seats ≡ length before.seats
  pub kind : (seat_in_force now).kind ≡ (seat_in_force before).kind
  pub mark : (seat_in_force before).kind ≡ Custom → (seat_in_force now).mark % 65536 ≡ ((seat_in_force before).mark + turns) % 65536

-- the turns so far: what was offered first, the answers, and that the trains chosen by them were tried
pub record IsAfterTurns (all : Bool) (ledger : Ledger) (before now : Table) (left : List Offer) : Type 0 where
  pub offers : List Offer
  pub answers : List ℕ
  pub table : now ≡ after_turns before offers answers
  pub rest : left ≡ left_after offers answers
  pub many : length answers + length left ≡ length offers
  pub few : length offers ≤ TRAINS
  pub exact : all ≡ true → offers ≡ offers_in ledger
  pub tried : AllChoose (IsTried ledger) offers answers

-- one turn more
counted_on : (first now then turns : ℕ) → now % 65536 ≡ (first + turns) % 65536 → then ≡ (now + 1) % 65536 → then % 65536 ≡ (first + (turns + 1)) % 65536
counted_on first now then turns so_far is = omega (arith, so_far, is)

-- fewer turns than marks change the mark
mark_moves : (first turns : ℕ) → 0 < turns → turns < 65536 → first % 65536 ≡ (first + turns) % 65536 → ⊥
mark_moves first turns some few same = omega (arith, some, few, same)

counted_turn : (before now : Table) (offers : List Offer) (answer turns : ℕ) → before.force < length before.seats → HasCounted before now turns
    → HasCounted before (after_turn now offers answer) (turns + 1)
counted_turn before now offers answer turns inside counted =
    record {
      force = counted.force;
      many = length-set now.seats now.force (asked (seat_in_force now) answer) ∙ counted.many;
      kind = ap (λ (s : DeskSeat). s.kind) seat_is ∙ counted.kind;
      mark = λ custom. counted_on (seat_in_force before).mark (seat_in_force now).mark (seat_in_force (after_turn now offers answer)).mark turns (counted.mark custom)
          (ap (λ (s : DeskSeat). s.mark) seat_is ∙ ap (λ kind. mark_when_asked kind (seat_in_force now).mark) (counted.kind ∙ custom));
    }
  where
    seat_is : seat_in_force (after_turn now offers answer) ≡ asked (seat_in_force now) answer
    seat_is = get_or-set_same now.seats now.force (asked (seat_in_force now) answer) no_seat (omega (arith, inside, counted.force, counted.many))

-- so many turns are counted
counted_turns : (before : Table) (offers : List Offer) (answers : List ℕ) → before.force < length before.seats → HasCounted before (after_turns before offers answers) (length answers)
counted_turns before offers [] inside = record { force = refl; many = refl; kind = refl; mark = λ _. ap (λ n. n % 65536) (omega arith) }
counted_turns before offers (answer ∷ answers) inside =
    let same : length answers + 1 ≡ length (answer ∷ answers) = omega arith in
    subst (HasCounted before (after_turns before offers (answer ∷ answers))) same
    (counted_turn before (after_turns before offers answers) (left_after offers answers) answer (length answers) inside (counted_turns before offers answers inside))

-- what all chosen offers have, they have by what follows from it
all_choose : (P Q : Offer → Type 0) → ((offer : Offer) → P offer → Q offer) → (offers : List Offer) (answers : List ℕ) → AllChoose P offers answers → AllChoose Q offers answers
all_choose P Q follows offers [] all = tt
all_choose P Q follows offers (answer ∷ answers) all = ((all.0.0, all.0.1, follows all.0.0 all.0.2), all_choose P Q follows offers answers all.1)

-- what was offered is offered still after a try
offers_same : (old new : Ledger) (t : ℕ) → HasTriedTrain old new t → offers_in old ≡ offers_in new
offers_same old new t tried =
    gather_same (λ u. cond (is_offered true (state_of old.state.trains u)) (offer_in old u ∷ []) []) (λ u. cond (is_offered true (state_of new.state.trains u)) (offer_in new u ∷ []) [])
    (length old.state.trains) each
    ∙ ap (λ n. gather (λ u. cond (is_offered true (state_of new.state.trains u)) (offer_in new u ∷ []) []) n) (sym tried.many)
  where
    each : (u : ℕ) → u < length old.state.trains
        → cond (state_of old.state.trains u).waits (offer_in old u ∷ []) [] ≡ cond (state_of new.state.trains u).waits (offer_in new u ∷ []) []
    each u lt =
        let known = tried.others u in
        (λ i. cond (sym (ap (λ (r : TrainState). r.waits) known.1) i) (sym (offer_same old new tried.alike.input tried.alike.orders u known.0 known.1) i ∷ []) [])

-- the desk after one turn more, in which the train was chosen that was tried then
pub turns_on : (all : Bool) (old new : Ledger) (before now turned : Table) (offers rest : List Offer) (t : ℕ) → t < length old.state.trains → IsAfterTurns all old before now offers → IsTurn now turned offers rest t
    → HasTriedTrain old new t → IsAfterTurns all new before turned rest
turns_on all old new before now turned offers rest t lt so_far turn tried = record {
  offers = so_far.offers;
  answers = turn.answer ∷ so_far.answers;
  table = turn.table ∙ (λ i. after_turn (so_far.table i) (so_far.rest i) turn.answer);
  rest = turn.left ∙ ap (λ (left : List Offer). remove left (within (length left) turn.answer)) so_far.rest;
  many =
      let place : ℕ = within (length offers) turn.answer in
      let inside : place < length offers = slice_get_within offers place turn.chosen turn.there in
      let fewer : length rest + 1 ≡ length offers = omega (arith, ap length turn.left, length-remove offers place inside, inside) in
      omega (arith, so_far.many, fewer);
  few = so_far.few;
  exact = λ is. so_far.exact is ∙ offers_same old new t tried;
  tried = (
    (
      turn.chosen,
      ap (λ (left : List Offer). slice_get left (within (length left) turn.answer)) (sym so_far.rest) ∙ turn.there,
      (
        subst (λ u. u < length new.state.trains) (sym turn.train) (omega (arith, lt, tried.many)),
        false_from_ne_true (is_untried (state_of new.state.trains turn.chosen.train)) (λ is. (tried.untried turn.chosen.train is).1 turn.train),
      ),
    ),
    all_choose (IsTried old) (IsTried new) still so_far.offers so_far.answers so_far.tried,
  );
}
  where
    still : (offer : Offer) → IsTried old offer → IsTried new offer
    still offer was = (
      omega (arith, was.0, tried.many),
      false_from_ne_true (is_untried (state_of new.state.trains offer.train)) (λ is. false≢true (sym was.1 ∙ (tried.untried offer.train is).0)),
    )

-- an admission that is noted leaves the mark of a custom policy
counted_note : (before turned after : Table) (t turns : ℕ) → before.force < length before.seats → HasCounted before turned turns → after ≡ after_note turned t
    → HasCounted before after turns
counted_note before turned after t turns inside counted is =
    subst (λ (table : Table). HasCounted before table turns) (sym is) (record {
      force = counted.force;
      many = length-set turned.seats turned.force (noted (seat_in_force turned) t) ∙ counted.many;
      kind = ap (λ (s : DeskSeat). s.kind) seat_is ∙ counted.kind;
      mark = λ custom. ap (λ n. n % 65536) (ap (λ (s : DeskSeat). s.mark) seat_is ∙ ap (λ kind. mark_when_noted kind t (seat_in_force turned).mark) (counted.kind ∙ custom)) ∙ counted.mark custom;
    })
  where
    seat_is : seat_in_force (after_note turned t) ≡ noted (seat_in_force turned) t
    seat_is = get_or-set_same turned.seats turned.force (noted (seat_in_force turned) t) no_seat (omega (arith, inside, counted.force, counted.many))

-- offers of trains are no fewer than the trains that pass
pub counted_offers : (test : ℕ → Bool) (offer : ℕ → Offer) → ((t : ℕ) → (offer t).train ≡ t) → (n : ℕ) (offers : List Offer)
    → ((t : ℕ) → t < n → test t ≡ true → Contains offers (offer t)) → sum_below (λ t. cond (test t) 1 0) n ≤ length offers
counted_offers test offer own zero offers there = omega arith
counted_offers test offer own (suc n) offers there = ⊎_elim
    (λ passes.
    let found = there n (omega arith) passes in
    let rest = counted_offers test offer own n (remove offers found.0) (λ t lt is.
    left_there offers found.0 (offer n) (offer t) found.1 (get_or_default offers found.0 (offer t) (offer n) found.1 ∙ found.2)
    (λ same. omega (arith, lt, sym (own t) ∙ same ∙ own n)) (there t (omega (arith, lt)) is)) in
    let here : ℕ = cond (test n) 1 0 in
    let one : here ≡ 1 = cond-true (test n) 1 0 passes in
    omega (arith, rest, length-remove offers found.0 found.1, one))
    (λ fails.
    let rest = counted_offers test offer own n offers (λ t lt is. there t (omega (arith, lt)) is) in
    let here : ℕ = cond (test n) 1 0 in
    let none : here ≡ 0 = cond-false (test n) 1 0 fails in
    omega (arith, rest, none))
    (cases_Bool (test n))

-- the offers of the trains that wait are those after the front
offers_seen : (front : Front) (ledger : Ledger) → IsAt front ledger → offers_in ledger ≡ offers_at (input_in ledger.input) front
offers_seen front ledger at =
    gather_same (λ t. cond (is_offered true (state_of ledger.state.trains t)) (offer_in ledger t ∷ []) [])
    (λ t. cond (is_ready (input_in ledger.input) front t) (offer_at (input_in ledger.input) front t ∷ []) []) (length ledger.state.trains) each
    ∙ ap (gather (λ t. cond (is_ready (input_in ledger.input) front t) (offer_at (input_in ledger.input) front t ∷ []) [])) at.rep.times.many
  where
    seen : (t : ℕ) → t < length ledger.state.trains → (b : Bool) → (state_of ledger.state.trains t).waits ≡ b
        → cond b (offer_in ledger t ∷ []) [] ≡ cond b (offer_at (input_in ledger.input) front t ∷ []) []
    seen t lt true waits = ap (λ (offer : Offer). offer ∷ []) (offer_is front ledger at t lt waits)
    seen t lt false waits = refl

    each : (t : ℕ) → t < length ledger.state.trains
        → cond (state_of ledger.state.trains t).waits (offer_in ledger t ∷ []) [] ≡ cond (is_ready (input_in ledger.input) front t) (offer_at (input_in ledger.input) front t ∷ []) []
    each t lt = seen t lt (state_of ledger.state.trains t).waits refl
        ∙ ap (λ b. cond b (offer_at (input_in ledger.input) front t ∷ []) []) (at.rep.waiting.ready t (omega (arith, lt, at.rep.times.many)))

-- the turns so far, as they are of the front
turns_seen : (front : Front) (ledger : Ledger) → IsAt front ledger → is_deciding (input_in ledger.input) front ≡ true → (all : Bool) (before now : Table) (left : List Offer)
    → ((seat_in_force before).kind ≡ Custom → all ≡ true) → IsAfterTurns all ledger before now left → TakesTurns (input_in ledger.input) front before now left
turns_seen front ledger at deciding all before now left custom so_far = record {
  offers = so_far.offers;
  answers = so_far.answers;
  table = so_far.table;
  rest = so_far.rest;
  all = λ is. so_far.exact (custom is) ∙ offers_seen front ledger at;
  refused = all_choose (IsTried ledger) (λ (offer : Offer). could_go (input_in ledger.input) front offer.train ≡ false) refused so_far.offers so_far.answers so_far.tried;
}
  where
    refused : (offer : Offer) → IsTried ledger offer → could_go (input_in ledger.input) front offer.train ≡ false
    refused offer tried = false_from_ne_true (could_go (input_in ledger.input) front offer.train) (λ goes.
        false≢true (sym tried.1 ∙ could_go-untried (dispatch_in ledger.input) ledger.input.plant front ledger.state at.rep deciding offer.train (omega (arith, tried.0, at.rep.times.many)) goes))

-- at an admission the policy in force was asked
was_asked : (front : Front) (ledger : Ledger) → IsAt front ledger → is_deciding (input_in ledger.input) front ≡ true → (all : Bool) (before now turned after : Table) (offers rest : List Offer) (t : ℕ)
    → before.force < length before.seats → ((seat_in_force before).kind ≡ Custom → all ≡ true) → AreOffers ledger offers → IsAfterTurns all ledger before now offers → IsTurn now turned offers rest t
    → after ≡ after_note turned t → WasAsked (input_in ledger.input) front t before after
was_asked front ledger at deciding all before now turned after offers rest t inside custom are so_far turn note = record {
  asked = record { offer = turn.chosen; offered = length offers };
  last = ap (λ (table : Table). table.last) note ∙ ap (λ (table : Table). table.last) turn.table
      ∙ ap (option_map (λ (offer : Offer). record { offer = offer; offered = length offers })) turn.there;
  offer = fits.fits ∙ offer_is front ledger at turn.chosen.train fits.known fits.waits ∙ ap (offer_at (input_in ledger.input) front) turn.train;
  offered = counted_offers (could_go (input_in ledger.input) front) (offer_at (input_in ledger.input) front) (λ u. refl) (trains ledger.input.plant) offers (λ u lt goes.
      let known : u < length ledger.state.trains = omega (arith, lt, at.rep.times.many) in
      let untried = could_go-untried (dispatch_in ledger.input) ledger.input.plant front ledger.state at.rep deciding u lt goes in
      subst (Contains offers) (offer_is front ledger at u known (and_parts (state_of ledger.state.trains u).waits (not (is_some (state_of ledger.state.trains u).known)) untried).0)
      (are.untried u known untried));
  mark = λ custom same. mark_moves (seat_in_force before).mark (length so_far.answers + 1) (omega arith)
      (omega (arith, so_far.few, so_far.many, slice_get_within offers place turn.chosen turn.there))
      (ap (λ n. n % 65536) (sym same)
      ∙ (counted_note before turned after t (length so_far.answers + 1) inside counted note).mark custom);
  turns = record {
    now = now;
    turned = turned;
    left = offers;
    rest = rest;
    turns = turns_seen front ledger at deciding all before now offers custom so_far;
    turn = turn;
    noted = note;
  };
}
  where
    place : ℕ
    place = within (length offers) turn.answer

    fits : IsOfferOf ledger turn.chosen
    fits = subst (IsOfferOf ledger) (get_or_from_slice_get offers place turn.chosen turn.chosen turn.there)
        (are.each place turn.chosen (slice_get_within offers place turn.chosen turn.there))

    counted : HasCounted before turned (length so_far.answers + 1)
    counted = subst (λ (table : Table). HasCounted before table (length so_far.answers + 1)) (sym turn.table)
        (counted_turn before now offers turn.answer (length so_far.answers) inside
        (subst (λ (table : Table). HasCounted before table (length so_far.answers)) (sym so_far.table) (counted_turns before so_far.offers so_far.answers inside)))

-- the train that a line admits
abbrev train_of : What → ℕ
train_of (Admit t m note) = t
train_of _ = 0

-- an admission behind some turns
pub admitted_asked : (first old : Ledger) (all : Bool) (before now turned after : Table) (offers rest : List Offer) (t : ℕ) (entry : Entry) → old.input ≡ first.input → StandsAsBefore first old
    → ((front : Front) → IsAt front old → is_deciding (input_in old.input) front ≡ true) → ((seat_in_force before).kind ≡ Custom → all ≡ true) → AreOffers old offers → IsAfterTurns all old before now offers
    → IsTurn now turned offers rest t → after ≡ after_note turned t → IsAdmissionOf t (state_of old.state.trains t).place entry → AsksFirst first before after entry
admitted_asked first old all before now turned after offers rest t entry same stands deciding custom are so_far turn note admission = λ seats front at desk u m why is.
    let at_now : IsAt front old = stands front at in
    let train_is : t ≡ u = ap train_of (sym admission.what ∙ is) in
    subst (λ (input : RunInput). WasAsked (input_in input) front u before after) same
    (subst (λ v. WasAsked (input_in old.input) front v before after) train_is
    (was_asked front old at_now (deciding front at_now) all before now turned after offers rest t desk.in_range custom are so_far turn note))

-- an admission is no line that admits nobody
pub admission_tells : (first : Ledger) (before after : Table) (t place : ℕ) (entry : Entry) → IsAdmissionOf t place entry → TellsDesks first before after entry
admission_tells first before after t place entry admission = λ front at idle. absurd (false≢true (sym idle ∙ ap is_admission admission.what))

-- where nobody is left to be offered, nobody was admitted
pub nobody_admitted : (first old : Ledger) (all : Bool) (before now : Table) (offers : List Offer) → old.input ≡ first.input → StandsAsBefore first old
    → ((front : Front) → IsAt front old → is_deciding (input_in old.input) front ≡ true) → ((seat_in_force before).kind ≡ Custom → all ≡ true) → IsAfterTurns all old before now offers
    → length offers ≡ 0 → (front : Front) → IsAt front first → AdmitsNobody (input_in first.input) front before now
nobody_admitted first old all before now offers same stands deciding custom so_far none = λ front at.
    let at_now : IsAt front old = stands front at in
    inr (subst (λ (input : RunInput). TakesTurns (input_in input) front before now []) same
    (subst (TakesTurns (input_in old.input) front before now) (empty offers none) (turns_seen front old at_now (deciding front at_now) all before now offers custom so_far)))
  where
    empty : (list : List Offer) → length list ≡ 0 → list ≡ []
    empty [] is = refl
    empty (offer ∷ rest) is = absurd (omega (arith, is))

-- a hold line behind turns that admit nobody
pub held_tells : (first new : Ledger) (before now : Table) (entry : Option Entry) → ((front : Front) → IsAt front first → AdmitsNobody (input_in first.input) front before now)
    → IfSome entry (λ e. (is_hold e.what ≡ true) × (new.listed ≡ listed.Nothing)) → IfSome entry (TellsDesks first before now)
held_tells first new before now None nobody kind = tt
held_tells first new before now (Some entry) nobody kind = λ front at idle. record {
  now = now;
  turns = nobody front at;
  told = ap (λ (orders : List Order). after_orders orders now) (sym (hold_tells (input_in first.input).commands entry.what kind.0));
}

-- a line behind turns that admit nobody, of which the desk is told
pub gone_tells : (first mid : Ledger) (before now after : Table) (entry : Entry) → mid.input ≡ first.input
    → ((front : Front) → IsAt front first → AdmitsNobody (input_in first.input) front before now)
    → after ≡ after_orders (orders_of mid.input.commands.items entry.what) now → TellsDesks first before after entry
gone_tells first mid before now after entry same nobody told = λ front at idle. record {
  now = now;
  turns = nobody front at;
  told = told ∙ ap (λ (input : RunInput). after_orders (orders_of input.commands.items entry.what) now) same;
}

-- the same of a ledger that stands for no fewer fronts
pub told_before : (first old : Ledger) (before after : Table) (entry : Option Entry) → old.input ≡ first.input → StandsAsBefore first old
    → IfSome entry (TellsDesks old before after) → IfSome entry (TellsDesks first before after)
told_before first old before after None same stands tells = tt
told_before first old before after (Some entry) same stands tells = λ front at idle.
    subst (λ (input : RunInput). TellsDesk (input_in input) front entry before after) same (tells front (stands front at) idle)

-- what a step that admits nobody does to the desk
pub step_tells : (seen old : Ledger) (before after : Table) → old ≡ seen → (entry : Option Entry) → IfSome entry (TellsDesks old before after)
    → IfSome entry (λ e. (seats : List Seat) (front : Front) → StandsFor seats front seen before → is_admission e.what ≡ false → TellsDesk (input_in seen.input) front e before after)
step_tells seen old before after same None tells = tt
step_tells seen old before after same (Some entry) tells = λ seats front stands idle.
    (subst (λ (ledger : Ledger). TellsDesks ledger before after entry) same tells) front stands.at idle

-- a line that admits no train
pub idle_asks : (first : Ledger) (before after : Table) (entry : Entry) → is_admission entry.what ≡ false → AsksFirst first before after entry
idle_asks first before after entry idle = λ seats front at desk t m note is. absurd (false≢true (sym idle ∙ ap is_admission is))

-- a hold line admits no train
pub held_asks : (first new : Ledger) (before after : Table) (entry : Option Entry) → IfSome entry (λ e. (is_hold e.what ≡ true) × (new.listed ≡ listed.Nothing))
    → IfSome entry (AsksFirst first before after)
held_asks first new before after None kind = tt
held_asks first new before after (Some entry) kind = idle_asks first before after entry (hold_none entry.what kind.0)

-- the same of a ledger that stands for no more fronts
pub asked_before : (first old : Ledger) (before after : Table) (entry : Option Entry) → old.input ≡ first.input → StandsAsBefore first old
    → IfSome entry (AsksFirst old before after) → IfSome entry (AsksFirst first before after)
asked_before first old before after None same stands asks = tt
asked_before first old before after (Some entry) same stands asks = λ seats front at desk t m note is.
    subst (λ (input : RunInput). WasAsked (input_in input) front t before after) same
    (asks seats front (stands front at) (subst (λ (input : RunInput). IsDesk (input_in input) seats front before) (sym same) desk) t m note is)

-- at a step that admits a train the policy in force was asked
pub step_asks : (seen old : Ledger) (before after : Table) → old ≡ seen → (entry : Option Entry) → IfSome entry (AsksFirst old before after)
    → IfSome entry (λ e. (seats : List Seat) (front : Front) → StandsFor seats front seen before → (t m : ℕ) (note : Note) → e.what ≡ Admit t m note
    → WasAsked (input_in seen.input) front t before after)
step_asks seen old before after same None asks = tt
step_asks seen old before after same (Some entry) asks = λ seats front stands.
    (subst (λ (ledger : Ledger). AsksFirst ledger before after entry) same asks) seats front stands.at stands.run.desk
