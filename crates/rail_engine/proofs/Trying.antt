-- A train that is tried, and the offers that are left.
use Rattle.std.proofs.Common.{◌≡◌, ◌≢◌, ℕ, suc, ◌+◌, ◌-◌, ◌<◌, true, false, not, ◌&&◌, List, length, get_or, set, Option, Some, is_some, refl, sym, ap, ◌∙◌, subst, ⊎_elim, arith}
use Rattle.std.specs.List.{All, Contains, remove}
use Rattle.std.proofs.lemmas.Bool.{and_right, cases_Bool, cases_eq, cases_lt, false_from_ne_true, false≢true}
use Rattle.std.proofs.lemmas.List.{get_or-set_other, get_or-set_same, length-set}
use Rattle.std.proofs.lemmas.List.Edits.{get_or-remove_above, get_or-remove_below, length-remove}
use Rattle.std.proofs.lemmas.Option.{get_or_from_slice_get, slice_get_within}
use Rattle.rail_base.specs.declared.history.Cause.{Cause}
use Rattle.rail_base.specs.declared.history.Cause.TheVariants.{NoList}
use Rattle.rail_base.specs.declared.orders.PolicyKind.{PolicyKind}
use Rattle.rail_policy.specs.Choices.{HasLeastKey}
use Rattle.rail_policy.specs.declared.offer.Offer.{Offer}
use Rattle.rail_laws_step.specs.HolderTables.{own_overlap}
use Rattle.rail_rules.specs.Plant.{claimed, train}
use Rattle.rail_rules.specs.RunHistories.{due}
use Rattle.rail_state.specs.declared.train.TrainState.{TrainState}
use Rattle.rail_state.specs.TrainStates.{bar_by, is_untried, no_state, state_of}
use Rattle.rail_ledger.specs.declared.ledger.Ledger.{Ledger}
use Rattle.rail_rules.specs.Fronts.{Front}
use Rattle.rail_state.specs.Representation.{AreAllKnown}
use Rattle.rail_ledger.specs.Ledgers.{AreAlike, IsAt, AreUnbarred, HasTried}
use Rattle.rail_engine.specs.Rounds.{AreOffers, HasTriedTrain, IsOfferOf, IsPicked, offer_in}

-- a train whose cause is known needs no try
pub tried_before : (ledger : Ledger) (t : ℕ) → is_untried (state_of ledger.state.trains t) ≡ false → HasTriedTrain ledger ledger t
tried_before ledger t known = record {
  alike = record { input = refl; orders = refl; reader = refl; queue = refl; holders = refl; instant = refl; is_settled = refl; has_ended = refl; remaining = refl; listed = refl };
  at = λ front at. at;
  many = refl;
  others = λ u. ((state_of ledger.state.trains u).known, refl);
  untried = λ u is. (is, λ same. false≢true (sym known ∙ ap (λ v. is_untried (state_of ledger.state.trains v)) (sym same) ∙ is));
}

-- no list is known for the train: it is tried
pub tried_now : (old new : Ledger) (t : ℕ) → t < length old.state.trains → AreAlike old new → HasTried old new t → HasTriedTrain old new t
tried_now old new t lt alike tried = record {
  alike = alike;
  at = tried.1;
  many = ap length tried.2 ∙ length-set old.state.trains t train_state;
  others = λ u. ⊎_elim
      (λ same. (
        Some NoList,
        ap (λ (states : List TrainState). state_of states u) tried.2
            ∙ (let P : ℕ → Type 0 = λ v. state_of (set old.state.trains t train_state) v ≡ record (state_of old.state.trains v) { known = Some NoList } in
            subst P (sym same) (get_or-set_same old.state.trains t train_state no_state lt)),
      ))
      (λ other. ((state_of old.state.trains u).known, there u other))
      (cases_eq u t);
  untried = λ u is. ⊎_elim
      (λ same. let P : ℕ → Type 0 = λ v. is_untried (state_of new.state.trains v) ≡ true in
      absurd (false≢true (sym (ap is_untried here ∙ and_right (state_of old.state.trains t).waits false refl) ∙ subst P same is)))
      (λ other. (ap is_untried (sym (there u other)) ∙ is, other))
      (cases_eq u t);
}
  where
    train_state : TrainState
    train_state = record (state_of old.state.trains t) { known = Some NoList }

    here : state_of new.state.trains t ≡ train_state
    here = ap (λ (states : List TrainState). state_of states t) tried.2 ∙ get_or-set_same old.state.trains t train_state no_state lt

    there : (u : ℕ) → (u ≡ t → ⊥) → state_of new.state.trains u ≡ state_of old.state.trains u
    there u other = ap (λ (states : List TrainState). state_of states u) tried.2 ∙ get_or-set_other old.state.trains t u train_state no_state other

-- what is offered of a train doesn't depend on its cause
pub offer_same : (old new : Ledger) → new.input ≡ old.input → new.orders ≡ old.orders → (u : ℕ) (known : Option Cause)
    → state_of new.state.trains u ≡ record (state_of old.state.trains u) { known = known } → offer_in new u ≡ offer_in old u
offer_same old new input orders u known is =
    λ i. record {
      train = u;
      place = suc (is i).place;
      priority = get_or (orders i).priorities u 0;
      entry = (train (input i).plant u).entry;
      due = due (input i).plant u (is i).place;
      ready = (is i).times.next_ready;
    }

-- what holds of each offer holds of each that is left
left_all : (P : Offer → Type 0) (offers : List Offer) (place : ℕ) → place < length offers → All P offers → All P (remove offers place)
left_all P offers place lt all = λ k d within. ⊎_elim
    (λ below. subst P (sym (get_or-remove_below offers place d k below lt)) (all k d (omega (arith, below, lt))))
    (λ from. subst P (sym (get_or-remove_above offers place d k from lt)) (all (k + 1) d (omega (arith, within, length-remove offers place lt))))
    (cases_lt k place)

-- an offer of another train is left
pub left_there : (offers : List Offer) (place : ℕ) (chosen other : Offer) → place < length offers → get_or offers place other ≡ chosen
    → other.train ≢ chosen.train → Contains offers other → Contains (remove offers place) other
left_there offers place chosen other lt is apart contains =
    let k : ℕ = contains.0 in
    let ne : k ≢ place = λ same. apart (ap (λ (o : Offer). o.train) (sym contains.2 ∙ ap (λ n. get_or offers n other) same ∙ is)) in
    ⊎_elim
    (λ below. (k, omega (arith, below, lt, length-remove offers place lt), get_or-remove_below offers place other k below lt ∙ contains.2))
    (λ from.
    let above : place < k = omega arith in
    let back : k - 1 + 1 ≡ k = omega (arith, above) in (
      k - 1,
      omega (arith, above, contains.1, length-remove offers place lt),
      get_or-remove_above offers place other (k - 1) (omega (arith, above)) lt ∙ ap (λ n. get_or offers n other) back ∙ contains.2,
    ))
    (cases_lt k place)

-- after a try the offers that are left are those of the trains that are left
pub offers_left : (old new : Ledger) (kind : PolicyKind) (mark : ℕ) (offers rest : List Offer) (t : ℕ) → IsPicked kind mark offers rest t → HasTriedTrain old new t
    → AreOffers old offers → AreOffers new rest
offers_left old new kind mark offers rest t picked tried are =
    subst (AreOffers new) (sym picked.rest) (record {
      each = left_all (IsOfferOf new) offers picked.place inside (λ k d lt. still (get_or offers k d) (are.each k d lt));
      untried = λ u lt is.
          let before = tried.untried u is in
          let known = tried.others u in
          subst (Contains (remove offers picked.place)) (sym (offer_same old new tried.alike.input tried.alike.orders u known.0 known.1))
          (left_there offers picked.place picked.least.chosen (offer_in old u) inside (get_or_from_slice_get offers picked.place picked.least.chosen (offer_in old u) picked.least.there)
          (λ same. before.1 (same ∙ picked.train)) (are.untried u (omega (arith, lt, tried.many)) before.0));
    })
  where
    inside : picked.place < length offers
    inside = slice_get_within offers picked.place picked.least.chosen picked.least.there

    still : (offer : Offer) → IsOfferOf old offer → IsOfferOf new offer
    still offer fits =
        let known = tried.others offer.train in
        record {
          known = omega (arith, fits.known, tried.many);
          waits = ap (λ (r : TrainState). r.waits) known.1 ∙ fits.waits;
          fits = fits.fits ∙ sym (offer_same old new tried.alike.input tried.alike.orders offer.train known.0 known.1);
        }

-- nothing bars those that are untried after the try
pub unbarred_left : (old new : Ledger) (t : ℕ) → HasTriedTrain old new t → AreUnbarred old → AreUnbarred new
unbarred_left old new t tried unbarred = λ u lt is.
    let before = tried.untried u is in
    let known = tried.others u in
    (λ i. bar_by (tried.alike.orders i) (tried.alike.holders i) u (own_overlap (tried.alike.input i).plant u (known.1 i).place) (claimed (tried.alike.input i).plant u (known.1 i).place))
    ∙ unbarred u (omega (arith, lt, tried.many)) before.0

-- where nothing is left to offer, the cause of each train that waits is known
pub none_untried : (ledger : Ledger) (offers : List Offer) → AreOffers ledger offers → length offers ≡ 0 → (t : ℕ) → t < length ledger.state.trains
    → is_untried (state_of ledger.state.trains t) ≡ false
none_untried ledger offers are empty t lt =
    false_from_ne_true (is_untried (state_of ledger.state.trains t)) (λ is.
    let there = are.untried t lt is in omega (arith, there.1, empty))

-- an offer with the least key is picked
pub picked_from : (kind : PolicyKind) (mark : ℕ) (shown old new : List Offer) (place : ℕ) (offer : Offer) → HasLeastKey kind mark shown place
    → offer ≡ get_or old place offer → new ≡ remove old place → shown ≡ old → IsPicked kind mark old new offer.train
picked_from kind mark shown old new place offer least read rest same =
    let here : HasLeastKey kind mark old place = subst (λ list. HasLeastKey kind mark list place) same least in
    record {
      place = place;
      least = here;
      train = ap (λ (o : Offer). o.train) (sym (get_or_from_slice_get old place here.chosen offer here.there) ∙ sym read);
      rest = rest;
    }

-- the train that is picked is one of the run
pub picked_known : (ledger : Ledger) (kind : PolicyKind) (mark : ℕ) (offers rest : List Offer) (t : ℕ) → AreOffers ledger offers → IsPicked kind mark offers rest t → t < length ledger.state.trains
picked_known ledger kind mark offers rest t are picked =
    let inside : picked.place < length offers = slice_get_within offers picked.place picked.least.chosen picked.least.there in
    let fits : IsOfferOf ledger picked.least.chosen = subst (IsOfferOf ledger) (get_or_from_slice_get offers picked.place picked.least.chosen picked.least.chosen picked.least.there) (are.each picked.place picked.least.chosen inside) in
    subst (λ n. n < length ledger.state.trains) picked.train fits.known

-- a train that waits and isn't untried has a known cause
cause_known : (train_state : TrainState) → train_state.waits ≡ true → is_untried train_state ≡ false → is_some train_state.known ≡ true
cause_known train_state waits tried = ⊎_elim
    (λ known. known)
    (λ unknown. absurd (false≢true (sym tried ∙ (λ i. waits i && not (unknown i)))))
    (cases_Bool (is_some train_state.known))

-- where nothing is left to offer, the cause of each train that waits is known
pub all_known : (front : Front) (ledger : Ledger) → IsAt front ledger → (offers : List Offer) → AreOffers ledger offers → length offers ≡ 0 → AreAllKnown ledger.input.plant ledger.state.trains
all_known front ledger at offers are empty = λ t lt waits.
    cause_known (state_of ledger.state.trains t) waits (none_untried ledger offers are empty t (omega (arith, lt, at.rep.times.many)))
