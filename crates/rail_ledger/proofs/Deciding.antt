-- Nothing is pending at the instant, so it is decided who goes.
use Rattle.std.proofs.Common.{◌≡◌, true, false, Some, sym, ◌∙◌}
use Rattle.std.proofs.lemmas.Bool.{false≢true}
use Rattle.rail_rules.specs.Fronts.{Front}
use Rattle.rail_rules.specs.Causes.{is_deciding}
use Rattle.rail_queue.specs.Order.{first_time_of, is_sorted}
use Rattle.rail_state.specs.TrainStates.{IsAnyWaiting}
use Rattle.rail_state.proofs.CallerLemmas.{deciding, unsettled_stands}
use Rattle.rail_ledger.specs.declared.ledger.Ledger.{Ledger}
use Rattle.rail_ledger.specs.Inputs.{dispatch_in, input_in}
use Rattle.rail_ledger.specs.Ledgers.{IsAt}

pub deciding_at : (front : Front) (ledger : Ledger) → IsAt front ledger → ledger.state.has_ended ≡ false → ledger.state.is_settled ≡ false
    → (first_time_of ledger.state.queue.events ≡ Some ledger.state.instant → ⊥) → is_sorted ledger.state.queue.events ≡ true
    → is_deciding (input_in ledger.input) front ≡ true
deciding_at front ledger at going unsettled none_due sorted =
    deciding (dispatch_in ledger.input) ledger.input.plant front ledger.state at.rep (sym at.rep.ended ∙ going) sorted none_due (λ empty. false≢true (sym unsettled ∙ at.rep.begun empty))

-- where some train waits, it may be decided once more
pub again_at : (front : Front) (ledger : Ledger) → IsAt front ledger → IsAnyWaiting ledger.state.trains → IsAt front (record ledger { state = record ledger.state { is_settled = false } })
again_at front ledger at some = record {
  accepted = at.accepted;
  ordered = at.ordered;
  rep = unsettled_stands (dispatch_in ledger.input) ledger.input.plant front ledger.state at.rep some;
  placed = at.placed;
  keeps = at.keeps;
  queue_room = at.queue_room;
  list_room = at.list_room;
  list_empty = at.list_empty;
  searcher = at.searcher;
  failures = at.failures;
}
