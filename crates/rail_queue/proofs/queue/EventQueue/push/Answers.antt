use Rattle.std.proofs.Common.{◌≡◌, ap, ◌∙◌, count_by, sym, arith}
use Rattle.std.specs.Prelude.{nat_eq}
use Rattle.rail_queue.specs.Order.{inserted}
use Rattle.rail_queue.specs.Queue.{Queue}
use Rattle.rail_queue.specs.Ring.{bucket, chain_at, chain_in}
use Rattle.rail_queue.proofs.Ringed.{Pushed, bucket_within, ring_is, pushed_in, short_chain, counted}
use Rattle.rail_queue.proofs.Marked.{mark_some, marked_set}
use Rattle.rail_queue.proofs.Leading.{here}
use Rattle.rail_queue.specs.Marks.{mark_of}
use Rattle.rail_queue.proofs.queue.EventQueue.push.Goals.{After-put_in_order}
use Rattle.rail_queue.proofs.queue.EventQueue.push.Goals as goal

pub put_in_order-requires-clause-chain : goal.put_in_order-requires-clause-chain
put_in_order-requires-clause-chain c = omega (arith, c.chain_of-chain.ensures, bucket_within c.self.inside.base c.bucket.result, c.self.invariant.ringed.long, ring_is)

-- the chain is that of the event
at : (c : After-put_in_order) → c.chain_of-chain.result ≡ chain_at c.self.inside.base c.args.event
at c = c.chain_of-chain.ensures ∙ ap (chain_in c.self.inside.base) c.bucket.ensures

pushed : (c : After-put_in_order) → Pushed c.self.inside.base c.self.inside.slots.chains c.put_in_order.new.slots.chains c.args.event
pushed c = pushed_in c.self.inside.base c.self.inside.slots.chains c.put_in_order.new.slots.chains c.args.event c.chain_of-chain.result (at c) c.self.invariant.ringed c.put_in_order.ensures.put

pub invariant_of-self : goal.invariant_of-self
invariant_of-self c =
    let put = c.put_in_order.ensures.put in
    record {
      ringed = (pushed (goal.at.invariant_of-self c).After-put_in_order).ring_is;
      marked = marked_set c.self.inside.marks.words c.mark.new.self.words c.self.inside.slots.chains c.put_in_order.new.slots.chains c.chain_of-chain.result _ c.self.invariant.marked put.is
          (λ low. c.mark.ensures.here low ∙ sym (ap mark_of (here c.self.inside.slots.chains c.put_in_order.new.slots.chains c.chain_of-chain.result c.args.event put (omega (arith, low, c.self.invariant.ringed.long, ring_is))) ∙ mark_some put.front (put.slot, c.args.event) put.rest))
          c.mark.ensures.others;
      chosen = c.first_with.ensures c.self.inside.base c.put_in_order.new.slots.chains c.self.invariant.ringed (at (goal.at.invariant_of-self c).After-put_in_order) put;
    }

pub returns-clause-events : goal.returns-clause-events
returns-clause-events c = (pushed (goal.at.returns-clause-events c).After-put_in_order).events ∙ ap (λ (queue : Queue). inserted c.args.event queue.events) c.self.view_is

pub returns-clause-counted : goal.returns-clause-counted
returns-clause-counted c = λ p.
    counted p c.args.event _ c.args.self.now.events
    ((pushed (goal.at.returns-clause-counted c).After-put_in_order).events ∙ ap (λ (queue : Queue). inserted c.args.event queue.events) c.self.view_is)

pub returns-clause-near : goal.returns-clause-near
returns-clause-near c = λ low high.
    let base = ap (λ (queue : Queue). queue.base) c.self.view_is in
    let short = short_chain c.self.inside.base c.self.inside.slots.chains c.args.event c.chain_of-chain.result (at (goal.at.returns-clause-near c).After-put_in_order) c.self.invariant.ringed (omega (arith, base, low)) (omega (arith, base, high)) in
    omega (arith, short, c.put_in_order.ensures.walked, ap (λ (queue : Queue). queue.slots.walked) c.self.view_is, ap (λ (queue : Queue). count_by (λ held. nat_eq (bucket held) (bucket c.args.event)) queue.events) c.self.view_is)
