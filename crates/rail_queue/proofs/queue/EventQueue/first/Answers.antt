use Rattle.std.proofs.Common.{◌≡◌, ◌∷◌, drop, set, IfSome, Option, Some, is_some, true, false, refl, sym, ap, subst, ◌∙◌}
use Rattle.std.proofs.lemmas.Bool.{false≢true}
use Rattle.rail_slots.specs.Slots.{first_item}
use Rattle.std.specs.List.{list_any}
use Rattle.rail_queue.specs.declared.event.Event.{Event}
use Rattle.rail_queue.specs.Choice.{IsChosen, IsFirstChain}
use Rattle.rail_queue.specs.Order.{goes_before, in_order, is_sorted}
use Rattle.rail_queue.specs.Queue.{Queue}
use Rattle.rail_queue.specs.Ring.{all_events, ring}
use Rattle.rail_queue.proofs.Stable.{in_order_sorted}
use Rattle.rail_queue.proofs.Chosen.{popped, least_in, not_nothing, nothing_at_all}
use Rattle.rail_queue.proofs.queue.EventQueue.first.Goals.{After-self, After-first_event}
use Rattle.rail_queue.proofs.queue.EventQueue.first.Goals as goal

sorted : (c : After-self) → is_sorted c.args.self.now.events ≡ true
sorted c = ap (λ (queue : Queue). is_sorted queue.events) (sym c.self.view_is) ∙ in_order_sorted (all_events ring c.self.inside.slots.chains)

chosen : (c : After-first_event) → IsChosen c.self.inside.slots.chains c.in_ok-chain.chain
chosen c = subst (IsFirstChain c.self.inside.slots.chains) c.in_ok-chain.was c.self.invariant.chosen

pub first_event-requires : goal.first_event-requires
first_event-requires c = let first : IsChosen c.self.inside.slots.chains c.in_ok-chain.chain = subst (IsFirstChain c.self.inside.slots.chains) c.in_ok-chain.was c.self.invariant.chosen in first.within

is : (c : After-first_event) → c.first_event.result ≡ Some (chosen c).first
is c = c.first_event.ensures ∙ ap first_item (chosen c).is

events : (c : After-first_event) → c.args.self.now.events ≡ (chosen c).first ∷ in_order (all_events ring (set c.self.inside.slots.chains c.in_ok-chain.chain (chosen c).rest))
events c =
    ap (λ (queue : Queue). queue.events) (sym c.self.view_is)
    ∙ popped c.self.inside.base c.self.inside.slots.chains (set c.self.inside.slots.chains c.in_ok-chain.chain (chosen c).rest) c.in_ok-chain.chain (chosen c) c.self.invariant.ringed refl

pub returns-in_err-chain-clause-none : goal.returns-in_err-chain-clause-none
returns-in_err-chain-clause-none c =
    let empty = ap (λ (queue : Queue). queue.events) (sym c.self.view_is) ∙ nothing_at_all c.self.inside.slots.chains (subst (IsFirstChain c.self.inside.slots.chains) c.in_err-chain.was c.self.invariant.chosen) in
    (λ _. empty, λ _. ap is_some c.from_residual.ensures)

pub returns-in_err-chain-clause-sorted : goal.returns-in_err-chain-clause-sorted
returns-in_err-chain-clause-sorted c = sorted (goal.at.returns-in_err-chain-clause-sorted c).After-self

pub returns-clause-none : goal.returns-clause-none
returns-clause-none c =
    let at = goal.at.returns-clause-none c in
    (λ none. absurd (false≢true (sym none ∙ ap is_some (is at.After-first_event))), λ none. absurd (not_nothing _ _ c.args.self.now.events (events at.After-first_event) none))

pub returns-clause-next : goal.returns-clause-next
returns-clause-next c =
    let at = goal.at.returns-clause-next c in
    let first = (chosen at.After-first_event).first in
    let all = events at.After-first_event in
    subst (λ (o : Option Event). IfSome o (λ event. c.args.self.now.events ≡ event ∷ drop 1 c.args.self.now.events)) (sym (is at.After-first_event))
    (all ∙ ap (λ list. first ∷ drop 1 list) (sym all))

pub returns-clause-least : goal.returns-clause-least
returns-clause-least c =
    let at = goal.at.returns-clause-least c in
    subst (λ (o : Option Event). IfSome o (λ event. list_any (λ other. goes_before other event) c.args.self.now.events ≡ false)) (sym (is at.After-first_event))
    (least_in _ _ c.args.self.now.events (events at.After-first_event) (sorted at.After-self))

pub returns-clause-sorted : goal.returns-clause-sorted
returns-clause-sorted c = sorted (goal.at.returns-clause-sorted c).After-self
