use Rattle.std.proofs.Common.{◌+◌, ◌&&◌, not, ap, ◌∙◌, count_by, length, arith}
use Rattle.std.specs.List.{filter}
use Rattle.rail_queue.specs.Order.{in_order, is_of}
use Rattle.rail_queue.specs.Queue.{Queue}
use Rattle.rail_queue.specs.Removal.{is_other}
use Rattle.rail_queue.specs.Ring.{all_events, ring}
use Rattle.rail_queue.proofs.Filtered.{count_left}
use Rattle.rail_queue.proofs.Ringed.{ring_is}
use Rattle.rail_queue.proofs.Removed.{Left, left_of}
use Rattle.rail_queue.proofs.queue.EventQueue.forget.Goals.{After-take_out}
use Rattle.rail_queue.proofs.queue.EventQueue.forget.Goals as goal

pub take_out-requires : goal.take_out-requires
take_out-requires c = omega (arith, c.self.invariant.ringed.long, ring_is)

left : (c : After-take_out) → Left (is_other c.args.class c.args.number) c.self.inside.base c.self.inside.slots c.take_out.new.slots
left c = left_of (is_other c.args.class c.args.number) c.self.inside.base c.self.inside.slots c.take_out.new.slots c.self.invariant.ringed c.take_out.ensures

pub note_all-requires : goal.note_all-requires
note_all-requires c = omega (arith, c.take_out.ensures.long, c.self.invariant.ringed.long, ring_is)

pub earliest-self-inside-requires-clause-ringed : goal.earliest-self-inside-requires-clause-ringed
earliest-self-inside-requires-clause-ringed c = (left (goal.at.earliest-self-inside-requires-clause-ringed c).After-take_out).ring_is

pub invariant_of-self : goal.invariant_of-self
invariant_of-self c = record { ringed = (left (goal.at.invariant_of-self c).After-take_out).ring_is; marked = c.note_all.ensures; chosen = c.earliest-self-inside.ensures }

pub returns-clause-events : goal.returns-clause-events
returns-clause-events c =
    (left (goal.at.returns-clause-events c).After-take_out).events ∙ ap (λ (queue : Queue). filter (λ event. not (is_of c.args.class c.args.number event)) queue.events) c.self.view_is

pub returns-clause-counted : goal.returns-clause-counted
returns-clause-counted c =
    λ p. ap (count_by p) (left (goal.at.returns-clause-counted c).After-take_out).events
    ∙ count_left (λ event. not (is_of c.args.class c.args.number event)) p (in_order (all_events ring c.self.inside.slots.chains))
    ∙ ap (λ (queue : Queue). count_by (λ event. not (is_of c.args.class c.args.number event) && p event) queue.events) c.self.view_is

pub returns-clause-room : goal.returns-clause-room
returns-clause-room c = (left (goal.at.returns-clause-room c).After-take_out).room ∙ ap (λ (queue : Queue). length queue.events + queue.spare) c.self.view_is
