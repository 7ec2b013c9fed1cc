use Rattle.std.proofs.Common.{ap, sym, ◌∙◌}
use Rattle.rail_queue.specs.Order.{is_sorted}
use Rattle.rail_queue.specs.Queue.{Queue}
use Rattle.rail_queue.specs.Ring.{all_events, ring}
use Rattle.rail_queue.proofs.Stable.{in_order_sorted}
use Rattle.rail_queue.proofs.queue.EventQueue.spare.Goals as goal

pub returns-clause-sorted : goal.returns-clause-sorted
returns-clause-sorted c = ap (λ (queue : Queue). is_sorted queue.events) (sym c.self.view_is) ∙ in_order_sorted (all_events ring c.self.inside.slots.chains)
