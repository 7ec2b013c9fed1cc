use Rattle.std.proofs.Common.{◌+◌, not, [], ◌∷◌, ◌++◌, set, sym, ap, ◌∙◌}
use Rattle.rail_slots.specs.Slots.{first_item, behind_first}
use Rattle.rail_queue.specs.Order.{is_of}
use Rattle.rail_queue.specs.Removal.{is_other}
use Rattle.rail_queue.proofs.Place.{stands, nothing}
use Rattle.rail_queue.proofs.Removed.{SweptNext, swept_next, swept_first, swept_at, swept_keep, swept_take, swept_end, given, fewer_left}
use Rattle.rail_queue.proofs.removal.take_out_behind.Goals.{In-Some}
use Rattle.rail_queue.proofs.removal.take_out_behind.Goals as goal

pub loop-next-init : goal.loop-next-init
loop-next-init c = swept_first (is_other c.args.class c.args.number) c.args.slots.now c.args.chain c.args.first c.requires.chain c.requires.first c.requires.is_other

pub next-requires : goal.next-requires
next-requires c = stands (swept_at (is_other c.args.class c.args.number) c.args.slots.now c.loop-next.slots c.args.chain c.loop-next.at c.loop-next.invariant)

after : (c : In-Some) → SweptNext (is_other c.args.class c.args.number) c.args.slots.now c.loop-next.slots c.next.new.self c.args.chain c.loop-next.at c.in-Some.next c.loop-next.invariant
after c =
    let swept = c.loop-next.invariant in
    swept_next (is_other c.args.class c.args.number) c.args.slots.now c.loop-next.slots c.next.new.self c.args.chain c.loop-next.at c.in-Some.next swept c.next.ensures.chains (c.in-Some.ensures.next c.args.chain swept.front swept.rest swept.item)

pub item-requires : goal.item-requires
item-requires c = stands (after (goal.at.item-requires c).In-Some).at

pub take_after-requires : goal.take_after-requires
take_after-requires c = stands (after (goal.at.take_after-requires c).In-Some).here

pub loop-next-smaller-then-is_of : goal.loop-next-smaller-then-is_of
loop-next-smaller-then-is_of c =
    let swept = c.loop-next.invariant in
    let next = after (goal.at.loop-next-smaller-then-is_of c).In-Some in
    fewer_left c.loop-next.slots.chains c.next.new.self.chains c.take_after.new.self.chains c.loop-next.at c.take_after.result next.item c.next.ensures.chains
    (c.take_after.ensures.item c.args.chain swept.front swept.rest swept.item next.here ∙ ap first_item next.is) c.take_after.ensures.fewer

pub loop-next-preserved-then-is_of : goal.loop-next-preserved-then-is_of
loop-next-preserved-then-is_of c =
    let swept = c.loop-next.invariant in
    let next = after (goal.at.loop-next-preserved-then-is_of c).In-Some in
    let same = c.item.ensures c.args.chain (swept.front ++ (c.loop-next.at, swept.item) ∷ []) next.more next.item next.at in
    let out = ap (λ e. not (is_of c.args.class c.args.number e)) (sym same) ∙ ap not (sym c.is_of.ensures) ∙ ap not c.if-is_of.true in
    let spare = given c.take_after.result next.item _ _ (c.take_after.ensures.item c.args.chain swept.front swept.rest swept.item next.here ∙ ap first_item next.is) c.take_after.ensures.spare in
    let list = swept.front ++ (c.loop-next.at, swept.item) ∷ behind_first swept.rest in
    swept_take (is_other c.args.class c.args.number) c.args.slots.now c.loop-next.slots c.take_after.new.self c.args.chain c.loop-next.at c.in-Some.next next.item next.more swept next.is out
    (c.take_after.ensures.chains c.args.chain swept.front swept.rest swept.item next.here ∙ ap (λ cs. set cs c.args.chain list) c.next.ensures.chains) (spare ∙ ap (λ n. n + 1) c.next.ensures.spare)

pub loop-next-preserved : goal.loop-next-preserved
loop-next-preserved c =
    let swept = c.loop-next.invariant in
    let next = after (goal.at.loop-next-preserved c).In-Some in
    let same = c.item.ensures c.args.chain (swept.front ++ (c.loop-next.at, swept.item) ∷ []) next.more next.item next.at in
    let stays_here = ap (λ e. not (is_of c.args.class c.args.number e)) (sym same) ∙ ap not (sym c.is_of.ensures) ∙ ap not c.if-is_of.false in
    swept_keep (is_other c.args.class c.args.number) c.args.slots.now c.loop-next.slots c.next.new.self c.args.chain c.loop-next.at c.in-Some.next next.item next.more swept next.is stays_here c.next.ensures.chains c.next.ensures.spare

pub returns : goal.returns
returns c =
    let swept = c.loop-next.invariant in
    let here = swept_at (is_other c.args.class c.args.number) c.args.slots.now c.loop-next.slots c.args.chain c.loop-next.at swept in
    swept_end (is_other c.args.class c.args.number) c.args.slots.now c.loop-next.slots c.next.new.self c.args.chain c.loop-next.at swept (nothing swept.rest (sym (c.in_default.ensures.next c.args.chain swept.front swept.rest swept.item here))) c.next.ensures.chains c.next.ensures.spare
