-- The offers, train by train.
use Rattle.std.proofs.Common.{◌≡◌, ℕ, zero, suc, ◌+◌, ◌-◌, ◌<◌, ◌≤◌, Bool, true, false, not, cond, is_some, List, [], ◌∷◌, ◌++◌, length, Some, None, refl, sym, ap, ◌∙◌, subst, ⊎_elim, arith}
use Rattle.std.specs.List.{All, Contains}
use Rattle.std.proofs.lemmas.Bool.{and_parts, cases_lt, false≢true, not-true}
use Rattle.std.proofs.lemmas.List.{append-nil, length-append}
use Rattle.std.proofs.lemmas.List.Elements.{All-push, Contains-append_left, Contains-push}
use Rattle.rail_policy.specs.declared.offer.Offer.{Offer}
use Rattle.rail_rules.specs.Fronts.{Front}
use Rattle.rail_rules.specs.Numbers.{gather}
use Rattle.rail_state.specs.declared.train.TrainState.{TrainState}
use Rattle.rail_state.specs.Representation.{AreAllKnown}
use Rattle.rail_state.specs.TrainStates.{IsNextOf, is_untried, state_of}
use Rattle.rail_ledger.specs.declared.ledger.Ledger.{Ledger}
use Rattle.rail_ledger.specs.Ledgers.{IsAt}
use Rattle.rail_engine.specs.Rounds.{AreOffers, IsOfferOf, is_offered, offer_in, offered_below}

-- a train that is offered waits
pub offered_waits : (all : Bool) (train_state : TrainState) → is_offered all train_state ≡ true → train_state.waits ≡ true
offered_waits true train_state is = is
offered_waits false train_state is = (and_parts train_state.waits (not (is_some train_state.known)) is).0

-- a train that waits without a known cause is offered
pub untried_offered : (all : Bool) (train_state : TrainState) → is_untried train_state ≡ true → is_offered all train_state ≡ true
untried_offered true train_state is = (and_parts train_state.waits (not (is_some train_state.known)) is).0
untried_offered false train_state is = is

-- nothing is gathered of numbers that give nothing
gather_on : {X : Type 0} (f : ℕ → List X) (from n : ℕ) → ((i : ℕ) → from ≤ i → i < from + n → f i ≡ []) → gather f (from + n) ≡ gather f from
gather_on f from zero none =
    let here : from + 0 ≡ from = omega arith in
    ap (gather f) here
gather_on f from (suc n) none =
    let more : from + suc n ≡ suc (from + n) = omega arith in
    ap (gather f) more
    ∙ ap (λ l. gather f (from + n) ++ l) (none (from + n) (omega arith) (omega arith))
    ∙ append-nil (gather f (from + n))
    ∙ gather_on f from n (λ i le lt. none i le (omega (arith, lt)))

gather_to : {X : Type 0} (f : ℕ → List X) (from to : ℕ) → from ≤ to → ((i : ℕ) → from ≤ i → i < to → f i ≡ []) → gather f to ≡ gather f from
gather_to f from to le none =
    let there : from + (to - from) ≡ to = omega (arith, le) in
    ap (gather f) (sym there) ∙ gather_on f from (to - from) (λ i from_le lt. none i from_le (omega (arith, lt, there)))

-- the offer of a train that is not offered
no_offer : (all : Bool) (ledger : Ledger) (t : ℕ) → is_offered all (state_of ledger.state.trains t) ≡ false
    → cond (is_offered all (state_of ledger.state.trains t)) (offer_in ledger t ∷ []) [] ≡ []
no_offer all ledger t is = ap (λ (b : Bool). cond b (offer_in ledger t ∷ []) []) is

-- each offer is that of a train below the number that waits, each of those that waits without a known cause has one, and
-- they are all that are offered, by number
pub record AreOffersBelow (all : Bool) (ledger : Ledger) (number : ℕ) (offers : List Offer) : Type 0 where
  pub each : All (IsOfferOf ledger) offers
  pub untried : (t : ℕ) → t < number → is_untried (state_of ledger.state.trains t) ≡ true → Contains offers (offer_in ledger t)
  pub few : length offers ≤ number
  pub exact : offers ≡ offered_below all ledger number

-- the next train is offered
pub offered_more : (all : Bool) (ledger : Ledger) (number train : ℕ) (old new : List Offer) (offer : Offer) → IsNextOf (is_offered all) ledger.state.trains number (Some train) → offer ≡ offer_in ledger train
    → new ≡ old ++ offer ∷ [] → AreOffersBelow all ledger number old → AreOffersBelow all ledger (train + 1) new
offered_more all ledger number train old new offer next offer_is new_is are =
    let states : List TrainState = ledger.state.trains in
    subst (AreOffersBelow all ledger (train + 1)) (sym new_is) (record {
      each = All-push (IsOfferOf ledger) old offer are.each (subst (IsOfferOf ledger) (sym offer_is) (record {
        known = next.0;
        waits = offered_waits all (state_of states train) next.2;
        fits = refl;
      }));
      untried = λ t below untried.
          ⊎_elim
          (λ earlier. Contains-append_left old (offer ∷ []) (offer_in ledger t) (are.untried t earlier untried))
          (λ from.
          ⊎_elim
          (λ passed. absurd (false≢true (sym (next.3 t from passed) ∙ untried_offered all (state_of states t) untried)))
          (λ above.
          let here : train ≡ t = omega (arith, above, below) in
          subst (λ k. Contains (old ++ offer ∷ []) (offer_in ledger k)) here (subst (Contains (old ++ offer ∷ [])) offer_is (Contains-push old offer)))
          (cases_lt t train))
          (cases_lt t number);
      few = omega (arith, length-append old (offer ∷ []), are.few, next.1);
      exact =
          let here : train + 1 ≡ suc train = omega arith in
          ap (λ l. l ++ offer ∷ []) (are.exact ∙ sym (gather_to (λ t. cond (is_offered all (state_of states t)) (offer_in ledger t ∷ []) []) number train next.1
          (λ t from passed. no_offer all ledger t (next.3 t from passed))))
          ∙ ap (λ l. offered_below all ledger train ++ l) (ap (λ (o : Offer). o ∷ []) offer_is ∙ sym (ap (λ (b : Bool). cond b (offer_in ledger train ∷ []) []) next.2))
          ∙ ap (offered_below all ledger) (sym here);
    })

-- what is offered of the trains below the number is all
pub offered_exact : (all : Bool) (ledger : Ledger) (number : ℕ) (offers : List Offer) → number ≤ length ledger.state.trains → IsNextOf (is_offered all) ledger.state.trains number None
    → AreOffersBelow all ledger number offers → offers ≡ offered_below all ledger (length ledger.state.trains)
offered_exact all ledger number offers within none are =
    are.exact ∙ sym (gather_to (λ t. cond (is_offered all (state_of ledger.state.trains t)) (offer_in ledger t ∷ []) []) number (length ledger.state.trains) within
    (λ t from _. no_offer all ledger t (none t from)))

-- where the cause of each train that waits is known, no offers are enough
pub none_offered : (front : Front) (ledger : Ledger) → IsAt front ledger → AreAllKnown ledger.input.plant ledger.state.trains → (offers : List Offer) → offers ≡ []
    → AreOffers ledger offers
none_offered front ledger at known offers empty =
    subst (AreOffers ledger) (sym empty) (record {
      each = λ k d lt. absurd (omega (arith, lt));
      untried = λ t lt untried.
          let train_state : TrainState = state_of ledger.state.trains t in
          let parts = and_parts train_state.waits (not (is_some train_state.known)) untried in
          absurd (false≢true (sym (not-true (is_some train_state.known) parts.1) ∙ known t (omega (arith, lt, at.rep.times.many)) parts.0));
    })
