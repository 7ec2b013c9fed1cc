use Rattle.std.proofs.Common.{◌≡◌, ◌+◌, ◌<◌, ◌≤◌, ◌&&◌, suc, not, ap, sym, subst, ◌∙◌, count_by, length, arith}
use Rattle.std.specs.List.{filter}
use Rattle.rail_queue.specs.Marks.{IsKept}
use Rattle.rail_queue.specs.Order.{in_order, is_of}
use Rattle.rail_queue.specs.Queue.{Queue}
use Rattle.rail_queue.specs.Removal.{is_other}
use Rattle.rail_queue.specs.Ring.{all_events, ring}
use Rattle.rail_queue.proofs.Filtered.{count_left}
use Rattle.rail_queue.proofs.Marked.{marked_set}
use Rattle.rail_queue.proofs.Ringed.{bucket_within, ring_is}
use Rattle.rail_queue.proofs.Removed.{Left, left_of}
use Rattle.rail_queue.proofs.Single.{none_found, one_found}
use Rattle.rail_queue.proofs.queue.EventQueue.forget_at.Goals.{After-take_out_of, After-spare}
use Rattle.rail_queue.proofs.queue.EventQueue.forget_at.Goals as goal

pub take_out_of-requires : goal.take_out_of-requires
take_out_of-requires c = omega (arith, c.chain_of-chain.ensures, bucket_within c.self.inside.base c.bucket_of.result, c.self.invariant.ringed.long, ring_is)

-- where none was found in the chain of the time, the chains are as before
same : (c : After-spare) → c.spare.result ≡ c.spare-spare.result → c.take_out_of.new.slots.chains ≡ c.self.inside.slots.chains
same c is = none_found (is_of c.args.class c.args.number) c.self.inside.slots c.take_out_of.new.slots c.chain_of-chain.result c.take_out_of.ensures (sym c.spare.ensures.spare ∙ is ∙ c.spare-spare.ensures.spare)

pub invariant_of-self : goal.invariant_of-self
invariant_of-self c = subst (λ cs. IsKept c.self.inside.base c.self.inside.marks.words cs c.self.inside.first_chain) (sym (same (goal.at.invariant_of-self c).After-spare c.if-spare.true)) c.self.invariant

pub returns-then-spare-clause-events : goal.returns-then-spare-clause-events
returns-then-spare-clause-events c =
    c.forget.ensures.events
    ∙ ap (λ cs. filter (λ event. not (is_of c.args.class c.args.number event)) (in_order (all_events ring cs))) (same (goal.at.returns-then-spare-clause-events c).After-spare c.if-spare.true)
    ∙ ap (λ (queue : Queue). filter (λ event. not (is_of c.args.class c.args.number event)) queue.events) c.self.view_is

pub returns-then-spare-clause-counted : goal.returns-then-spare-clause-counted
returns-then-spare-clause-counted c = λ p.
    c.forget.ensures.counted p
    ∙ ap (λ cs. count_by (λ event. not (is_of c.args.class c.args.number event) && p event) (in_order (all_events ring cs))) (same (goal.at.returns-then-spare-clause-counted c).After-spare c.if-spare.true)
    ∙ ap (λ (queue : Queue). count_by (λ event. not (is_of c.args.class c.args.number event) && p event) queue.events) c.self.view_is

pub returns-then-spare-clause-room : goal.returns-then-spare-clause-room
returns-then-spare-clause-room c =
    omega (
      arith,
      c.forget.ensures.room,
      ap (λ cs. length (in_order (all_events ring cs))) (same (goal.at.returns-then-spare-clause-room c).After-spare c.if-spare.true),
      c.spare.ensures.spare,
      c.spare-spare.ensures.spare,
      c.if-spare.true,
      ap (λ (queue : Queue). length queue.events + queue.spare) c.self.view_is,
    )

-- where one was found there, no chain has one any more
left : (c : After-spare) → (c.spare.result ≡ c.spare-spare.result → ⊥) → Left (is_other c.args.class c.args.number) c.self.inside.base c.self.inside.slots c.take_out_of.new.slots
left c differ =
    let within : c.chain_of-chain.result < suc ring = omega (arith, c.chain_of-chain.ensures, bucket_within c.self.inside.base c.bucket_of.result, ring_is) in
    let single : count_by (is_of c.args.class c.args.number) (in_order (all_events ring c.self.inside.slots.chains)) ≤ 1 =
    omega (arith, c.requires.single, ap (λ (queue : Queue). count_by (is_of c.args.class c.args.number) queue.events) c.self.view_is) in
    left_of (is_other c.args.class c.args.number) c.self.inside.base c.self.inside.slots c.take_out_of.new.slots c.self.invariant.ringed
    (one_found (is_of c.args.class c.args.number) c.self.inside.slots c.take_out_of.new.slots c.chain_of-chain.result c.self.invariant.ringed.long within single c.take_out_of.ensures
    (λ e. differ (c.spare.ensures.spare ∙ e ∙ sym c.spare-spare.ensures.spare)))

pub earliest-self-inside-requires-clause-ringed : goal.earliest-self-inside-requires-clause-ringed
earliest-self-inside-requires-clause-ringed c = (left (goal.at.earliest-self-inside-requires-clause-ringed c).After-spare c.if-spare.false).ring_is

pub invariant_of-self-2 : goal.invariant_of-self-2
invariant_of-self-2 c = record {
  ringed = (left (goal.at.invariant_of-self-2 c).After-spare c.if-spare.false).ring_is;
  marked = marked_set c.self.inside.marks.words c.note.new.self.words c.self.inside.slots.chains c.take_out_of.new.slots.chains c.chain_of-chain.result _ c.self.invariant.marked c.take_out_of.ensures.chains c.note.ensures.here c.note.ensures.others;
  chosen = c.earliest-self-inside.ensures;
}

pub returns-clause-events : goal.returns-clause-events
returns-clause-events c =
    (left (goal.at.returns-clause-events c).After-spare c.if-spare.false).events ∙ ap (λ (queue : Queue). filter (λ event. not (is_of c.args.class c.args.number event)) queue.events) c.self.view_is

pub returns-clause-counted : goal.returns-clause-counted
returns-clause-counted c = λ p.
    ap (count_by p) (left (goal.at.returns-clause-counted c).After-spare c.if-spare.false).events
    ∙ count_left (λ event. not (is_of c.args.class c.args.number event)) p (in_order (all_events ring c.self.inside.slots.chains))
    ∙ ap (λ (queue : Queue). count_by (λ event. not (is_of c.args.class c.args.number event) && p event) queue.events) c.self.view_is

pub returns-clause-room : goal.returns-clause-room
returns-clause-room c = (left (goal.at.returns-clause-room c).After-spare c.if-spare.false).room ∙ ap (λ (queue : Queue). length queue.events + queue.spare) c.self.view_is
