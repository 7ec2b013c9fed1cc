use Rattle.std.proofs.Common.{◌≡◌, ◌≢◌, false, Some, length, map, vec_capacity}
use Rattle.std.specs.Prelude.{IsTrue}
use Rattle.rail_rules.specs.Fronts.{Front}
use Rattle.rail_queue.specs.Order.{first_time_of, is_sorted}
use Rattle.rail_policy.specs.Desks.{Table}
use Rattle.rail_ledger.specs.declared.ledger.Listed.TheVariants as listed
use Rattle.rail_ledger.specs.Ledgers.{AreUnbarred, IsAt, IsSomewhere}
use Rattle.rail_engine.specs.Engines.{StaysDesk}
use Rattle.rail_engine.specs.Rounds.{AreOffers}
use Rattle.rail_engine.proofs.Asking.{IsAfterTurns}
use Rattle.rail_engine.proofs.round.decide.Given as goal

abbrev pub invariant-loop-round : goal.invariant-loop-round
invariant-loop-round g l =
    let before : Table = record {
      seats = map (λ held. (goal.Policy-dyn g (held.vtable, held.value)).seat held.value) l.fn.desk.deck.items;
      force = l.fn.desk.force;
      last = l.fn.desk.last;
    } in
    let now : Table = record {
      seats = map (λ held. (goal.Policy-dyn g (held.vtable, held.value)).seat held.value) l.desk.deck.items;
      force = l.desk.force;
      last = l.desk.last;
    } in
    record {
      running : IsSomewhere l.ledger;
      going : l.ledger.state.has_ended ≡ false;
      unsettled : l.ledger.state.is_settled ≡ false;
      none_due : first_time_of l.ledger.state.queue.events ≢ Some l.ledger.state.instant;
      sorted : IsTrue (is_sorted l.ledger.state.queue.events);
      unlisted : l.ledger.listed ≡ listed.Nothing;
      input : l.ledger.input ≡ l.fn.ledger.input;
      at : (front : Front) → IsAt front l.fn.ledger → IsAt front l.ledger;
      unbarred : AreUnbarred l.ledger;
      offers : AreOffers l.ledger l.round.offers.items;
      room : vec_capacity l.round.offers ≡ vec_capacity l.fn.round.offers;
      fresh : l.round.is_over ≡ false;
      desk : StaysDesk l.fn.ledger before now;
      turns : IsAfterTurns l.all l.ledger before now l.round.offers.items;
    }

abbrev pub decreases-loop-round : goal.decreases-loop-round
decreases-loop-round g l = length l.round.offers.items
