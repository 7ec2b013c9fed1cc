use Rattle.std.proofs.Common.{◌<◌, not, [], length, sym, ap, ◌∙◌, arith}
use Rattle.rail_slots.specs.Slots.{first_item}
use Rattle.rail_queue.specs.Order.{is_of}
use Rattle.rail_queue.specs.Removal.{is_other, first_passes}
use Rattle.rail_queue.proofs.Place.{Begins, begins, stands}
use Rattle.rail_queue.proofs.Removed.{cleared_none, cleared_long, cleared_more, given}
use Rattle.rail_queue.proofs.removal.take_out_first.Goals.{In-Some, After-is_of}
use Rattle.rail_queue.proofs.removal.take_out_first.Goals as goal

pub loop-first-init : goal.loop-first-init
loop-first-init c = cleared_none (is_other c.args.class c.args.number) c.args.slots.now c.args.chain

found : (c : In-Some) → Begins c.loop-first.slots.chains c.args.chain c.in-Some.first
found c =
    let within : c.args.chain < length c.loop-first.slots.chains = omega (arith, c.requires, cleared_long (is_other c.args.class c.args.number) c.args.slots.now c.loop-first.slots c.args.chain c.loop-first.invariant) in
    begins c.loop-first.slots.chains c.args.chain c.in-Some.first within (sym c.in-Some.ensures.first)

pub item-requires : goal.item-requires
item-requires c = stands (found (goal.at.item-requires c).In-Some).at

pub returns-then-not-is_of-clause-first : goal.returns-then-not-is_of-clause-first
returns-then-not-is_of-clause-first c =
    let first = found (goal.at.returns-then-not-is_of-clause-first c).In-Some in
    let same = c.item.ensures c.args.chain [] first.rest first.item first.at in
    ap (first_passes (is_other c.args.class c.args.number)) first.is ∙ ap (λ e. not (is_of c.args.class c.args.number e)) (sym same) ∙ ap not (sym c.is_of.ensures) ∙ ap not c.if-not-is_of.true

pub loop-first-preserved : goal.loop-first-preserved
loop-first-preserved c =
    let first = found (goal.at.loop-first-preserved c).In-Some in
    let same = c.item.ensures c.args.chain [] first.rest first.item first.at in
    let out = ap (λ e. not (is_of c.args.class c.args.number e)) (sym same) ∙ ap not (sym c.is_of.ensures) ∙ ap not c.if-not-is_of.false in
    cleared_more (is_other c.args.class c.args.number) c.args.slots.now c.loop-first.slots c.take_first.new.self c.args.chain c.in-Some.first first.item first.rest c.requires c.loop-first.invariant first.is out
    c.take_first.ensures.chains (given c.take_first.result first.item _ _ (c.take_first.ensures.item ∙ ap first_item first.is) c.take_first.ensures.spare)
