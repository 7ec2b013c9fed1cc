-- The offers of a round.
use Rattle.std.specs.Prelude.{◌≡◌, ◌≢◌, ℕ, suc, ◌<◌, Bool, true, cond, List, [], ◌∷◌, Option, length, get_or}
use Rattle.std.specs.List.{All, Contains, remove}
use Rattle.rail_base.specs.declared.orders.PolicyKind.{PolicyKind}
use Rattle.rail_rules.specs.Numbers.{gather}
use Rattle.rail_rules.specs.Plant.{train}
use Rattle.rail_rules.specs.RunHistories.{due}
use Rattle.rail_policy.specs.Choices.{HasLeastKey}
use Rattle.rail_policy.specs.declared.offer.Offer.{Offer}
use Rattle.rail_state.specs.declared.train.TrainState.{TrainState}
use Rattle.rail_state.specs.TrainStates.{is_untried, state_of}
use Rattle.rail_base.specs.declared.history.Cause.{Cause}
use Rattle.rail_ledger.specs.declared.ledger.Ledger.{Ledger}
use Rattle.rail_ledger.specs.Ledgers.{AreAlike, StandsAsBefore}

-- the next move of the train as it is offered to a policy
abbrev pub offer_in : Ledger → ℕ → Offer
offer_in ledger t =
    record {
      train = t;
      place = suc (state_of ledger.state.trains t).place;
      priority = get_or ledger.orders.priorities t 0;
      entry = (train ledger.input.plant t).entry;
      due = due ledger.input.plant t (state_of ledger.state.trains t).place;
      ready = (state_of ledger.state.trains t).times.next_ready;
    }

-- the train is offered: it waits, and unless all that wait are offered no cause of it is known
abbrev pub is_offered : Bool → TrainState → Bool
is_offered all train_state = cond all train_state.waits (is_untried train_state)

-- the offers of the trains below the number that are offered, by number
abbrev pub offered_below : Bool → Ledger → ℕ → List Offer
offered_below all ledger number = gather (λ t. cond (is_offered all (state_of ledger.state.trains t)) (offer_in ledger t ∷ []) []) number

-- the offers of all trains that wait, by number
abbrev pub offers_in : Ledger → List Offer
offers_in ledger = offered_below true ledger (length ledger.state.trains)

-- the offer is that of the next move of a train that waits
pub record IsOfferOf (ledger : Ledger) (offer : Offer) : Type 0 where
  pub known : offer.train < length ledger.state.trains
  pub waits : (state_of ledger.state.trains offer.train).waits ≡ true
  pub fits : offer ≡ offer_in ledger offer.train

-- each offer is that of a train that waits, and each train that waits without a known cause has one
pub record AreOffers (ledger : Ledger) (offers : List Offer) : Type 0 where
  pub each : All (IsOfferOf ledger) offers
  pub untried : (t : ℕ) → t < length ledger.state.trains → is_untried (state_of ledger.state.trains t) ≡ true
      → Contains offers (offer_in ledger t)

-- the train is that of an offer with the least key, which is taken out of the offers
pub record IsPicked (kind : PolicyKind) (mark : ℕ) (old new : List Offer) (t : ℕ) : Type 0 where
  pub place : ℕ
  pub least : HasLeastKey kind mark old place
  pub train : least.chosen.train ≡ t
  pub rest : new ≡ remove old place

-- the train's cause is known: it was, or no list is known for it
pub record HasTriedTrain (old new : Ledger) (t : ℕ) : Type 0 where
  pub alike : AreAlike old new
  pub at : StandsAsBefore old new
  pub many : length new.state.trains ≡ length old.state.trains
  pub others : (u : ℕ) → (known : Option Cause) × (state_of new.state.trains u ≡ record (state_of old.state.trains u) { known = known })
  pub untried : (u : ℕ) → is_untried (state_of new.state.trains u) ≡ true
      → (is_untried (state_of old.state.trains u) ≡ true) × (u ≢ t)
