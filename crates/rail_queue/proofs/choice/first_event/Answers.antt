use Rattle.std.proofs.Common.{[], Some, sym, ap, ◌∙◌}
use Rattle.rail_slots.specs.Slots.{first_item}
use Rattle.rail_queue.proofs.Place.{Begins, begins, stands}
use Rattle.rail_queue.proofs.choice.first_event.Goals.{In_ok-slot}
use Rattle.rail_queue.proofs.choice.first_event.Goals as goal

first : (c : In_ok-slot) → Begins c.args.slots.now.chains c.args.chain c.in_ok-slot.slot
first c = begins c.args.slots.now.chains c.args.chain c.in_ok-slot.slot c.requires (sym c.in_ok-slot.ensures.first)

pub item-requires : goal.item-requires
item-requires c = stands (first (goal.at.item-requires c).In_ok-slot).at

pub returns : goal.returns
returns c =
    let begin = first (goal.at.returns c).In_ok-slot in
    ap Some (c.item.ensures c.args.chain [] begin.rest begin.item begin.at) ∙ sym (ap first_item begin.is)
