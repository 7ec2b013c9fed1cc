-- What the policy in force was asked about, turn by turn, before a line was given.
use Rattle.std.specs.Prelude.{◌≡◌, ◌≢◌, ◌≤◌, ◌⊎◌, ℕ, suc, cond, false, List, [], ◌∷◌, Some, length, slice_get}
use Rattle.std.specs.List.{remove}
use Rattle.rail_base.specs.declared.history.Entry.{Entry}
use Rattle.rail_base.specs.declared.history.Note.{Note}
use Rattle.rail_base.specs.declared.history.What.TheVariants.{Admit}
use Rattle.rail_base.specs.declared.orders.PolicyKind.TheVariants.{Custom}
use Rattle.rail_rules.specs.Causes.{could_go, is_ready, place}
use Rattle.rail_rules.specs.Fronts.{Front, admissions, is_admission}
use Rattle.rail_rules.specs.Numbers.{gather, sum_below}
use Rattle.rail_rules.specs.Orders.{Input, orders_of, priority_of, told}
use Rattle.rail_rules.specs.Plant.{train, trains}
use Rattle.rail_rules.specs.RunHistories.{Seat, due}
use Rattle.rail_rules.specs.Times.{ready}
use Rattle.rail_policy.specs.declared.desk.Asked.{Asked}
use Rattle.rail_policy.specs.declared.offer.Offer.{Offer}
use Rattle.rail_policy.specs.Desks.{Table, after_note, after_turn, seat_in_force, within}
use Rattle.rail_ledger.specs.declared.ledger.Ledger.{Ledger}
use Rattle.rail_ledger.specs.Inputs.{input_in}
use Rattle.rail_ledger.specs.Ledgers.{IsAt}
use Rattle.rail_engine.specs.Desks.{IsDesk, after_orders}

-- the offer of the train's next move after the front
abbrev pub offer_at : Input → Front → ℕ → Offer
offer_at input front t =
    record {
      train = t;
      place = suc (place front t);
      priority = priority_of (train input.plant t).priority t (told input.commands front);
      entry = (train input.plant t).entry;
      due = due input.plant t (place front t);
      ready = ready input.plant t (admissions front t) (place front t);
    }

-- how many trains could be admitted: they wait, and there is no cause why
abbrev pub could_go_count : Input → Front → ℕ
could_go_count input front = sum_below (λ t. cond (could_go input front t) 1 0) (trains input.plant)

-- the offers of all trains that wait after the front, by number
abbrev pub offers_at : Input → Front → List Offer
offers_at input front = gather (λ t. cond (is_ready input front t) (offer_at input front t ∷ []) []) (trains input.plant)

-- the offers that are left after these answers, the last one first: what is chosen is taken out
abbrev pub left_after : List Offer → List ℕ → List Offer
left_after offers [] = offers
left_after offers (answer ∷ before) =
    let left : List Offer = left_after offers before in
    remove left (within (length left) answer)

-- the desk after turns in which the policy in force gave these answers, the last one first, each to the offers that were left
abbrev pub after_turns : Table → List Offer → List ℕ → Table
after_turns table offers [] = table
after_turns table offers (answer ∷ before) = after_turn (after_turns table offers before) (left_after offers before) answer

-- the answer chooses one of the offers that are left, and it has the property
abbrev pub Chooses : (Offer → Type 0) → List Offer → ℕ → Type 0
Chooses P left answer = (chosen : Offer) × (slice_get left (within (length left) answer) ≡ Some chosen) × P chosen

-- each of these answers, the last one first, chooses an offer with the property
abbrev pub AllChoose : (Offer → Type 0) → List Offer → List ℕ → Type 0
AllChoose P offers [] = Unit {0}
AllChoose P offers (answer ∷ before) = Chooses P (left_after offers before) answer × AllChoose P offers before

-- the policy in force took turns, each about the offers that were left by the turns before, and none of the trains that it
-- chose could be admitted; a custom policy is offered all that wait, by number
pub record TakesTurns (input : Input) (front : Front) (before now : Table) (left : List Offer) : Type 0 where
  pub offers : List Offer
  pub answers : List ℕ
  pub table : now ≡ after_turns before offers answers
  pub rest : left ≡ left_after offers answers
  pub all : (seat_in_force before).kind ≡ Custom → offers ≡ offers_at input front
  pub refused : AllChoose (λ (offer : Offer). could_go input front offer.train ≡ false) offers answers

-- one turn about these offers, in which the policy in force chose the one of the train, and what is left of them
pub record IsTurn (before after : Table) (offers rest : List Offer) (t : ℕ) : Type 0 where
  pub answer : ℕ
  pub chosen : Offer
  pub there : slice_get offers (within (length offers) answer) ≡ Some chosen
  pub train : chosen.train ≡ t
  pub table : after ≡ after_turn before offers answer
  pub left : rest ≡ remove offers (within (length offers) answer)

-- the policy in force was asked: turns about trains that could not be admitted, then one that chose the train, whose
-- admission it noted
pub record IsChosenByTurns (input : Input) (front : Front) (t : ℕ) (before after : Table) : Type 0 where
  pub now : Table
  pub turned : Table
  pub left : List Offer
  pub rest : List Offer
  pub turns : TakesTurns input front before now left
  pub turn : IsTurn now turned left rest t
  pub noted : after ≡ after_note turned t

-- the policy in force was asked: the last turn chose the train's next move, among no fewer offers than trains that could be
-- admitted, and where the policy is a custom one its mark has changed
pub record WasAsked (input : Input) (front : Front) (t : ℕ) (before after : Table) : Type 0 where
  pub asked : Asked
  pub last : after.last ≡ Some asked
  pub offer : asked.offer ≡ offer_at input front t
  pub offered : could_go_count input front ≤ asked.offered
  pub mark : (seat_in_force before).kind ≡ Custom → (seat_in_force after).mark ≢ (seat_in_force before).mark
  pub turns : IsChosenByTurns input front t before after

-- where the entry admits a train, the policy in force was asked, for each front for which the ledger stood and to which the
-- desk belonged
abbrev pub AsksFirst : Ledger → Table → Table → Entry → Type 0
AsksFirst ledger before after entry = (seats : List Seat) (front : Front) → IsAt front ledger → IsDesk (input_in ledger.input) seats front before
    → (t m : ℕ) (note : Note) → entry.what ≡ Admit t m note → WasAsked (input_in ledger.input) front t before after

-- nobody was admitted: the policy in force was not asked, or about each of the offers
abbrev pub AdmitsNobody : Input → Front → Table → Table → Type 0
AdmitsNobody input front before now = (now ≡ before) ⊎ TakesTurns input front before now []

-- what a line that admits nobody does to the desk: turns that admit nobody, and then the order that the line tells
pub record TellsDesk (input : Input) (front : Front) (entry : Entry) (before after : Table) : Type 0 where
  pub now : Table
  pub turns : AdmitsNobody input front before now
  pub told : after ≡ after_orders (orders_of input.commands entry.what) now

-- where the entry admits nobody, so is the desk, for each front for which the ledger stood
abbrev pub TellsDesks : Ledger → Table → Table → Entry → Type 0
TellsDesks ledger before after entry = (front : Front) → IsAt front ledger → is_admission entry.what ≡ false
    → TellsDesk (input_in ledger.input) front entry before after
