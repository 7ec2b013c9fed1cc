use Rattle.std.proofs.Common.{suc, length, sym, ap, subst, ◌∙◌}
use Rattle.rail_queue.specs.Queue.{Queue}
use Rattle.rail_queue.specs.Order.{in_order}
use Rattle.rail_queue.specs.Ring.{IsRing, ring, all_events}
use Rattle.rail_queue.proofs.Ringed.{ring_is}
use Rattle.rail_queue.proofs.queue.EventQueue.slots.Goals as goal

pub returns-clause-long : goal.returns-clause-long
returns-clause-long c = ap (λ (queue : Queue). length queue.slots.chains) (sym c.self.view_is) ∙ c.self.invariant.ringed.long ∙ ap suc ring_is

pub returns-clause-ring : goal.returns-clause-ring
returns-clause-ring c = subst (λ (queue : Queue). IsRing ring queue.base queue.slots.chains) c.self.view_is c.self.invariant.ringed

pub returns-clause-events : goal.returns-clause-events
returns-clause-events c = ap (λ (queue : Queue). queue.events) (sym c.self.view_is) ∙ ap (λ (queue : Queue). in_order (all_events ring queue.slots.chains)) c.self.view_is
