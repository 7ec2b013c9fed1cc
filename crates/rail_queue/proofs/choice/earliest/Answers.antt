use Rattle.std.proofs.Common.{◌≡◌, is_some, true, get_or, [], refl, sym, ap, subst, ◌∙◌, arith}
use Rattle.rail_slots.specs.Slots.{first_slot}
use Rattle.rail_queue.specs.Order.{goes_before}
use Rattle.std.specs.List.{AllByRecursion}
use Rattle.rail_queue.specs.Ring.{events_in, ring}
use Rattle.rail_queue.specs.Choice.{IsChosen, IsNearest}
use Rattle.rail_queue.proofs.Ringed.{ring_is}
use Rattle.rail_queue.proofs.Chosen.{first_lies, far_alone, nothing_there, none_of, no_item, chosen_near, choose_near, choose_far}
use Rattle.rail_queue.proofs.Marked.{nearest_of, bare_near}
use Rattle.rail_queue.proofs.choice.earliest.Goals.{In-Some}
use Rattle.rail_queue.proofs.choice.earliest.Goals as goal

near : (c : In-Some) → IsNearest c.args.slots.now.chains c.args.base c.in-Some.near
near c = nearest_of c.args.base c.in-Some.near c.args.marks.now.words c.args.slots.now.chains c.requires.marked c.in-Some.ensures.some

pub first-requires : goal.first-requires
first-requires c = omega (arith, c.requires.ringed.long, ring_is)

pub first_event-requires : goal.first_event-requires
first_event-requires c = omega (arith, c.requires.ringed.long, ring_is)

pub first_event-requires-2 : goal.first_event-requires-2
first_event-requires-2 c =
    let low = (first_lies c.args.base c.args.slots.now.chains c.in-Some.near (near (goal.at.first_event-requires-2 c).In-Some) c.requires.ringed).0 in
    omega (arith, low, c.requires.ringed.long)

pub returns-then-is_some : goal.returns-then-is_some
returns-then-is_some c =
    let chains = c.args.slots.now.chains in
    subst (λ n. IsChosen chains n) ring_is (far_alone c.args.base chains c.requires.ringed (bare_near c.args.base 1024 c.args.marks.now.words chains c.requires.marked c.in_default.ensures.none) (get_or chains ring []) refl
    (ap (λ n. is_some (first_slot (get_or chains n []))) ring_is ∙ ap is_some (sym c.first.ensures.first) ∙ sym c.is_some.ensures ∙ c.if-is_some.true))

pub returns-in_default : goal.returns-in_default
returns-in_default c =
    let chains = c.args.slots.now.chains in
    nothing_there c.args.base chains c.requires.ringed (bare_near c.args.base 1024 c.args.marks.now.words chains c.requires.marked c.in_default.ensures.none)
    (none_of (get_or chains ring []) (ap (λ n. is_some (first_slot (get_or chains n []))) ring_is ∙ ap is_some (sym c.first.ensures.first) ∙ sym c.is_some.ensures ∙ c.if-is_some.false))

pub returns-in_default-first_event : goal.returns-in_default-first_event
returns-in_default-first_event c =
    let chains = c.args.slots.now.chains in
    let far = ap (λ n. get_or chains n []) ring_is ∙ no_item (get_or chains 1024 []) c.in_default-first_event.ensures in
    let nearest = near (goal.at.returns-in_default-first_event c).In-Some in
    chosen_near c.args.base chains c.in-Some.near nearest c.requires.ringed (subst (λ l. AllByRecursion (λ x. goes_before nearest.first x ≡ true) (events_in l)) (sym far) tt)

pub returns-then-sooner : goal.returns-then-sooner
returns-then-sooner c =
    choose_near c.args.base c.args.slots.now.chains c.in-Some.near (near (goal.at.returns-then-sooner c).In-Some) c.in-Some-first_event-2.near_event c.in-Some-first_event.far_event c.requires.ringed
    c.in-Some-first_event-2.ensures c.in-Some-first_event.ensures (sym c.goes_before-sooner.ensures ∙ c.if-sooner.true)

pub returns-else-sooner : goal.returns-else-sooner
returns-else-sooner c =
    choose_far c.args.base c.args.slots.now.chains c.in-Some.near (near (goal.at.returns-else-sooner c).In-Some) c.in-Some-first_event-2.near_event c.in-Some-first_event.far_event c.requires.ringed
    c.in-Some-first_event-2.ensures c.in-Some-first_event.ensures (sym c.goes_before-sooner.ensures ∙ c.if-sooner.false)
