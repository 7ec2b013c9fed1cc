use Rattle.std.proofs.Common.{[], get_or, refl, ap, ◌∙◌}
use Rattle.rail_queue.proofs.Ringed.{empty_chain, ring_empty, events_empty}
use Rattle.rail_queue.proofs.Marked.{marked_none}
use Rattle.rail_queue.proofs.queue.EventQueue.with_room.Goals as goal

pub invariant_of-result : goal.invariant_of-result
invariant_of-result c = record {
  ringed = ring_empty c.in_ok-slots.slots.chains 1025 refl c.in_ok-slots.ensures.chains;
  marked = marked_none c.new.result.words c.in_ok-slots.slots.chains 1025 c.new.ensures c.in_ok-slots.ensures.chains;
  chosen = λ k. ap (λ cs. get_or cs k []) c.in_ok-slots.ensures.chains ∙ empty_chain 1025 k;
}

pub returns-clause-empty : goal.returns-clause-empty
returns-clause-empty c = events_empty c.in_ok-slots.slots.chains 1025 c.in_ok-slots.ensures.chains
