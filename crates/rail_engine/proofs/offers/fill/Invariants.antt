use Rattle.std.proofs.Common.{◌≡◌, ◌-◌, ◌≤◌, length, vec_capacity}
use Rattle.rail_engine.proofs.Offering.{AreOffersBelow}
use Rattle.rail_engine.proofs.offers.fill.Given as goal

abbrev pub invariant-loop-train : goal.invariant-loop-train
invariant-loop-train l = record {
  are : AreOffersBelow l.all l.ledger l.from l.offers.items;
  within : l.from ≤ length l.ledger.state.trains;
  room : vec_capacity l.offers ≡ vec_capacity l.fn.offers;
}

abbrev pub decreases-loop-train : goal.decreases-loop-train
decreases-loop-train l = length l.ledger.state.trains - l.from
