use Rattle.std.proofs.Common.{◌≡◌, true, get_or, [], sym, ap, subst, ◌∙◌}
use Rattle.rail_slots.specs.Slots.{StandsAt}
use Rattle.rail_queue.specs.Order.{goes_before, is_sorted}
use Rattle.std.specs.List.{AllByRecursion}
use Rattle.rail_queue.specs.Ring.{events_in}
use Rattle.rail_queue.specs.Walk.{starts_before}
use Rattle.rail_queue.proofs.Place.{begins, stands, later, put_at_front, put_behind}
use Rattle.rail_queue.proofs.chains.put_in_order.Goals as goal

pub item-requires : goal.item-requires
item-requires c =
    let chain = begins c.args.slots.now.chains c.args.chain c.in-Some.first c.requires.chain (sym c.in-Some.ensures.first) in
    stands chain.at

pub returns-then-goes_before-clause-put : goal.returns-then-goes_before-clause-put
returns-then-goes_before-clause-put c =
    let chain = begins c.args.slots.now.chains c.args.chain c.in-Some.first c.requires.chain (sym c.in-Some.ensures.first) in
    let same = c.item.ensures c.args.chain [] chain.rest chain.item chain.at in
    let before : goes_before c.args.event chain.item ≡ true = ap (goes_before c.args.event) (sym same) ∙ sym c.goes_before.ensures ∙ c.if-goes_before.true in
    let sorted : is_sorted (events_in (get_or c.args.slots.now.chains c.args.chain [])) ≡ true = c.requires.sorted in
    put_at_front _ _ c.args.chain _ c.args.event c.put_first-then-goes_before.ensures.chains
    (subst (λ l. AllByRecursion (λ x. goes_before c.args.event x ≡ true) (events_in l)) (sym chain.is) (later c.args.event chain.item (events_in chain.rest) before (ap (λ l. is_sorted (events_in l)) (sym chain.is) ∙ sorted)))

pub last_not_after-last-requires-clause-not_before : goal.last_not_after-last-requires-clause-not_before
last_not_after-last-requires-clause-not_before c =
    let chain = begins c.args.slots.now.chains c.args.chain c.in-Some.first c.requires.chain (sym c.in-Some.ensures.first) in
    let same = c.item.ensures c.args.chain [] chain.rest chain.item chain.at in
    ap (starts_before c.args.event) chain.is ∙ ap (goes_before c.args.event) (sym same) ∙ sym c.goes_before.ensures ∙ c.if-goes_before.false

pub returns-clause-put : goal.returns-clause-put
returns-clause-put c =
    let last = c.last_not_after-last.ensures in
    put_behind c.args.slots.now c.last_not_after-last.new.slots _ c.args.chain c.args.event c.last_not_after-last.result c.put_after.result last
    (c.put_after.ensures.chains c.args.chain last.front last.rest last.item (subst (λ cs. StandsAt cs c.last_not_after-last.result c.args.chain last.front last.item last.rest) (sym last.chains) last.at))
