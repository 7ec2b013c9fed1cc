use Rattle.std.proofs.Common.{◌≡◌, ◌≢◌, true, false, Some, IsTrue}
use Rattle.rail_rules.specs.Fronts.{Front}
use Rattle.rail_queue.specs.Order.{first_time_of, is_sorted}
use Rattle.rail_state.specs.Representation.{AreAllKnown}
use Rattle.rail_ledger.specs.declared.ledger.Listed.TheVariants as listed
use Rattle.rail_ledger.specs.Ledgers.{IsAt, IsSomewhere, untried}
use Rattle.rail_ledger.proofs.ledger.Ledger.left_to_decide.Given as goal

abbrev pub invariant-loop-train : goal.invariant-loop-train
invariant-loop-train l = record {
  running : IsSomewhere l.self;
  going : l.self.state.has_ended ≡ false;
  unsettled : l.self.state.is_settled ≡ false;
  none_due : first_time_of l.self.state.queue.events ≢ Some l.self.state.instant;
  sorted : IsTrue (is_sorted l.self.state.queue.events);
  unlisted : l.self.listed ≡ listed.Nothing;
  known : l.after_hold ≡ true → AreAllKnown l.self.input.plant l.self.state.trains;
  known_unchanged : l.after_hold ≡ true → l.self.state.trains ≡ l.fn.self.state.trains;
  input : l.self.input ≡ l.fn.self.input;
  at : (front : Front) → IsAt front l.fn.self → IsAt front l.self;
}

abbrev pub decreases-loop-train : goal.decreases-loop-train
decreases-loop-train l = untried l.self.state.trains
