-- A ledger before its first line.
use Rattle.std.proofs.Common.{◌≡◌, ℕ, zero, suc, ◌+◌, ◌≤◌, true, false, List, [], ◌∷◌, ◌++◌, length, get_or, replicate, Some, None, refl, sym, ap, ◌∙◌, subst, arith}
use Rattle.std.specs.Prelude.{◌↔◌, vec_capacity}
use Rattle.std.proofs.lemmas.Bool.{false≢true}
use Rattle.std.proofs.lemmas.Grind.{replicate_next}
use Rattle.rail_base.specs.declared.limits.TheConstants.{TRAINS}
use Rattle.rail_rules.specs.Accepted.{is_accepted_input}
use Rattle.rail_orders.specs.OrderTables.{AreOrders, first_tables}
use Rattle.rail_orders.proofs.CallerLemmas.{no_orders}
use Rattle.rail_ledger.specs.Inputs.{dispatch_in, input_in}
use Rattle.rail_ledger.proofs.Ordered.{input_parts}
use Rattle.rail_rules.specs.Moves.{Moves}
use Rattle.rail_rules.specs.Numbers.{listed, sum_below}
use Rattle.rail_rules.specs.Places.{holds}
use Rattle.rail_rules.specs.Plant.{moves_of, trains}
use Rattle.rail_laws_step.specs.MostDue.{most_due}
use Rattle.rail_cores.specs.Searchers.{IsSearcherFor}
use Rattle.rail_list.specs.Failures.{is_kept}
use Rattle.rail_list.specs.KeptLists.{HasRoomFor}
use Rattle.rail_place.specs.PlaceStates.{IsMadeFor}
use Rattle.rail_place.specs.Tables.{moves_in, MoveLists}
use Rattle.rail_state.proofs.CallerLemmas.{begins}
use Rattle.rail_ledger.specs.declared.ledger.Ledger.{Ledger}
use Rattle.rail_ledger.specs.Ledgers.{IsAt}
use Rattle.rail_state.specs.declared.pushes.TheConstants.{MOVE_EVENTS}
use Rattle.rail_state.specs.Representation.{IsBeginning}

-- a ledger whose parts were all made anew
pub record IsNew (ledger : Ledger) (table : List MoveLists) : Type 0 where
  pub accepted : is_accepted_input (input_in ledger.input) ≡ true
  pub orders : ledger.orders ≡ first_tables ledger.input.plant ledger.input.deck.items ledger.input.force
  pub same : moves_in table ≡ moves_of ledger.input.plant
  pub made : IsMadeFor table ledger.places
  pub positions : ledger.places.positions ≡ replicate (trains ledger.input.plant) 0
  pub list : ledger.kept.trains ≡ []
  pub list_fits : HasRoomFor table ledger.kept
  pub begins : IsBeginning (dispatch_in ledger.input) ledger.input.plant ledger.state
  pub queue_room : length ledger.state.queue.events + ledger.state.queue.spare ≡ most_due ledger.input.plant (length ledger.input.commands.items) + MOVE_EVENTS
  pub remaining_room : vec_capacity ledger.remaining ≡ TRAINS
  pub remaining : ledger.remaining.items ≡ []
  pub searcher : IsSearcherFor (moves_in table) ledger.searcher
  pub failures : (t : ℕ) → is_kept ledger.failures t ≡ false

zeros : (n : ℕ) → replicate {A = ℕ} n 0 ≡ listed (λ t. 0) n
zeros zero = refl
zeros (suc n) = let more : suc n ≡ n + 1 = omega arith in
    ap (λ (k : ℕ). replicate {A = ℕ} k 0) more ∙ replicate_next {X = ℕ} n 0 ∙ ap (λ (xs : List ℕ). xs ++ 0 ∷ []) (zeros n)

pub new_stands : (ledger : Ledger) (table : List MoveLists) → IsNew ledger table → IsAt [] ledger
new_stands ledger table new = record {
  accepted = new.accepted;
  ordered = subst (AreOrders ledger.input.plant ledger.input.deck.items ledger.input.force []) (sym new.orders) (no_orders ledger.input.plant ledger.input.deck.items ledger.input.force);
  rep = begins (dispatch_in ledger.input) ledger.input.plant ledger.state (input_parts (input_in ledger.input) new.accepted).plant new.begins;
  placed = record {
    positions = new.positions ∙ zeros (trains ledger.input.plant);
    room = new.made.room;
    counted = new.made.counted;
    told = subst (λ (plan : Moves). (x u : ℕ) → (get_or ledger.places.owners x None ≡ Some u) ↔ (holds plan ledger.places.positions u x ≡ true)) new.same new.made.told;
  };
  keeps = record {
    is_list = new.list;
    room = subst (λ (plan : Moves). sum_below plan.moves plan.trains ≤ ledger.kept.room) new.same new.list_fits;
  };
  queue_room = new.queue_room;
  list_room = new.remaining_room;
  list_empty = λ going. new.remaining;
  searcher = subst (λ (plan : Moves). IsSearcherFor plan ledger.searcher) new.same new.searcher;
  failures = λ t lt is. absurd (false≢true (sym (new.failures t) ∙ is));
}
