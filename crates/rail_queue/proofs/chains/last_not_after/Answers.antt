use Rattle.std.proofs.Common.{[], ◌∷◌, ◌++◌, sym, ap, ◌∙◌}
use Rattle.rail_queue.specs.Order.{goes_before}
use Rattle.rail_queue.proofs.Place.{Follows, stands, still, follows, reached_first, reached_next, last_before, last_of_all, nothing}
use Rattle.rail_queue.proofs.chains.last_not_after.Goals.{In-Some}
use Rattle.rail_queue.proofs.chains.last_not_after.Goals as goal

pub loop-next-init : goal.loop-next-init
loop-next-init c = reached_first c.args.slots.now c.args.chain c.args.first c.args.event c.requires.chain c.requires.first c.requires.not_before

after : (c : In-Some) → Follows c.args.slots.now c.loop-next.slots c.next.new.self c.args.chain c.args.event c.loop-next.at c.in-Some.next c.loop-next.invariant
after c =
    let reached = c.loop-next.invariant in
    follows c.args.slots.now c.loop-next.slots c.next.new.self c.args.chain c.args.event c.loop-next.at c.in-Some.next reached c.next.ensures.chains (c.in-Some.ensures.next c.args.chain reached.front reached.rest reached.item)

pub item-requires : goal.item-requires
item-requires c = stands (after (goal.at.item-requires c).In-Some).now

pub returns-then-goes_before : goal.returns-then-goes_before
returns-then-goes_before c =
    let reached = c.loop-next.invariant in
    let next = after (goal.at.returns-then-goes_before c).In-Some in
    let same = c.item.ensures c.args.chain (reached.front ++ (c.loop-next.at, reached.item) ∷ []) next.more next.item next.now in
    last_before c.args.slots.now c.loop-next.slots c.next.new.self c.args.chain c.args.event c.loop-next.at c.in-Some.next next.item next.more reached c.requires.sorted next.is
    (ap (goes_before c.args.event) (sym same) ∙ sym c.goes_before.ensures ∙ c.if-goes_before.true) c.next.ensures.chains c.next.ensures.spare c.next.ensures.walked

pub loop-next-preserved : goal.loop-next-preserved
loop-next-preserved c =
    let reached = c.loop-next.invariant in
    let next = after (goal.at.loop-next-preserved c).In-Some in
    let same = c.item.ensures c.args.chain (reached.front ++ (c.loop-next.at, reached.item) ∷ []) next.more next.item next.now in
    reached_next c.args.slots.now c.loop-next.slots c.next.new.self c.args.chain c.args.event c.loop-next.at c.in-Some.next next.item next.more reached next.at
    c.next.ensures.chains c.next.ensures.spare c.next.ensures.walked (ap (goes_before c.args.event) (sym same) ∙ sym c.goes_before.ensures ∙ c.if-goes_before.false)

pub returns : goal.returns
returns c =
    let reached = c.loop-next.invariant in
    let here = still c.args.slots.now c.loop-next.slots c.args.chain c.args.event c.loop-next.at reached in
    last_of_all c.args.slots.now c.loop-next.slots c.next.new.self c.args.chain c.args.event c.loop-next.at reached (nothing reached.rest (sym (c.in_default.ensures.next c.args.chain reached.front reached.rest reached.item here)))
    c.next.ensures.chains c.next.ensures.spare c.next.ensures.walked
