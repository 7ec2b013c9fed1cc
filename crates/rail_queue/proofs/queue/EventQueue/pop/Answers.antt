use Rattle.std.proofs.Common.{◌≡◌, ◌∷◌, max, [], get_or, is_some, length, sym, ap, subst, ◌∙◌, arith}
use Rattle.std.proofs.lemmas.Bool.{false≢true}
use Rattle.std.proofs.lemmas.List.{length-set}
use Rattle.rail_slots.specs.Slots.{behind_first}
use Rattle.rail_queue.specs.Marks.{AreMarked}
use Rattle.rail_queue.specs.Order.{in_order, is_sorted}
use Rattle.rail_queue.specs.Queue.{Queue}
use Rattle.rail_queue.specs.Choice.{IsChosen, IsFirstChain}
use Rattle.rail_queue.specs.Ring.{all_events, ring}
use Rattle.rail_queue.proofs.Stable.{in_order_sorted}
use Rattle.rail_queue.proofs.Ringed.{counted_first}
use Rattle.rail_queue.proofs.Chosen.{Popped, popped_of, least_in, not_nothing, nothing_at_all}
use Rattle.rail_queue.proofs.Marked.{marked_set}
use Rattle.rail_queue.proofs.queue.EventQueue.pop.Goals.{After-take_first, After-max-self-inside}
use Rattle.rail_queue.proofs.queue.EventQueue.pop.Goals as goal

chosen : (c : After-take_first) → IsChosen c.self.inside.slots.chains c.in_ok-chain.chain
chosen c = subst (IsFirstChain c.self.inside.slots.chains) c.in_ok-chain.was c.self.invariant.chosen

pub take_first-requires : goal.take_first-requires
take_first-requires c = let first : IsChosen c.self.inside.slots.chains c.in_ok-chain.chain = subst (IsFirstChain c.self.inside.slots.chains) c.in_ok-chain.was c.self.invariant.chosen in first.within

done : (c : After-max-self-inside) → Popped c.self.inside.base c.max-self-inside.result c.self.inside.slots.chains c.take_first.new.self.chains c.in-Some.event
done c =
    let first : IsChosen c.self.inside.slots.chains c.in_ok-chain.chain = subst (IsFirstChain c.self.inside.slots.chains) c.in_ok-chain.was c.self.invariant.chosen in
    popped_of c.self.inside.base c.max-self-inside.result c.self.inside.slots.chains c.take_first.new.self.chains c.in_ok-chain.chain c.in-Some.event first c.self.invariant.ringed
    c.in-Some.ensures.item c.take_first.ensures.chains (c.max-self-inside.ensures ∙ ap (max c.self.inside.base) c.bucket.ensures)

events : (c : After-max-self-inside) → c.args.self.now.events ≡ c.in-Some.event ∷ in_order (all_events ring c.take_first.new.self.chains)
events c = ap (λ (queue : Queue). queue.events) (sym c.self.view_is) ∙ (done c).events

marked : (c : After-max-self-inside) → AreMarked c.note.new.self.words c.take_first.new.self.chains 1024
marked c = marked_set c.self.inside.marks.words c.note.new.self.words c.self.inside.slots.chains c.take_first.new.self.chains c.in_ok-chain.chain _ c.self.invariant.marked c.take_first.ensures.chains c.note.ensures.here c.note.ensures.others

pub note-requires : goal.note-requires
note-requires c =
    let chains = c.self.inside.slots.chains in
    omega (arith, ap length c.take_first.ensures.chains, length-set chains c.in_ok-chain.chain (behind_first (get_or chains c.in_ok-chain.chain [])), (chosen (goal.at.note-requires c).After-take_first).within)

pub earliest-self-inside-requires-clause-ringed : goal.earliest-self-inside-requires-clause-ringed
earliest-self-inside-requires-clause-ringed c = (done (goal.at.earliest-self-inside-requires-clause-ringed c).After-max-self-inside).left

pub earliest-self-inside-requires-clause-marked : goal.earliest-self-inside-requires-clause-marked
earliest-self-inside-requires-clause-marked c = marked (goal.at.earliest-self-inside-requires-clause-marked c).After-max-self-inside

pub invariant_of-self : goal.invariant_of-self
invariant_of-self c = record {
  ringed = (done (goal.at.invariant_of-self c).After-max-self-inside).left;
  marked = marked (goal.at.invariant_of-self c).After-max-self-inside;
  chosen = c.earliest-self-inside.ensures;
}

pub returns-in_err-chain-clause-none : goal.returns-in_err-chain-clause-none
returns-in_err-chain-clause-none c =
    let empty = ap (λ (queue : Queue). queue.events) (sym c.self.view_is) ∙ nothing_at_all c.self.inside.slots.chains (subst (IsFirstChain c.self.inside.slots.chains) c.in_err-chain.was c.self.invariant.chosen) in
    (λ _. empty, λ _. ap is_some c.from_residual.ensures)

pub returns-clause-next : goal.returns-clause-next
returns-clause-next c = events (goal.at.returns-clause-next c).After-max-self-inside

pub returns-clause-none : goal.returns-clause-none
returns-clause-none c = (λ h. absurd (false≢true (sym h)), λ none. absurd (not_nothing c.in-Some.event _ c.args.self.now.events (events (goal.at.returns-clause-none c).After-max-self-inside) none))

pub returns-clause-least : goal.returns-clause-least
returns-clause-least c =
    least_in c.in-Some.event _ c.args.self.now.events (events (goal.at.returns-clause-least c).After-max-self-inside)
    (ap (λ (queue : Queue). is_sorted queue.events) (sym c.self.view_is) ∙ in_order_sorted (all_events ring c.self.inside.slots.chains))

pub returns-clause-counted : goal.returns-clause-counted
returns-clause-counted c = λ p. counted_first p c.in-Some.event _ c.args.self.now.events (events (goal.at.returns-clause-counted c).After-max-self-inside)
