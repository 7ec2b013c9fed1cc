use Rattle.std.proofs.Common.{◌≡◌, ◌+◌, ◌-◌, ◌++◌, drop, length, take, ap, ◌∙◌, arith}
use Rattle.rail_slots.specs.Links.{all_cells, put}
use Rattle.rail_slots.proofs.Linked.{put_long}
use Rattle.rail_slots.proofs.Shown.{chain_of, has_slot, kept_room, New, new_of, put_first_is, unused, written}
use Rattle.rail_slots.proofs.slots.Slots.put_first.Goals.{After-new_slot-slot, After-put_behind}
use Rattle.rail_slots.proofs.slots.Slots.put_first.Goals as goal

-- the slot is new, and then it is put behind the cell before the chain
new : (g : _) (c : After-new_slot-slot g)
    → New c.new_slot-slot.new.next.items c.new_slot-slot.new.items.items c.self.inside.chains (c.self.inside.spare - 1) (all_cells c.self.inside.next.items c.self.inside.spare) c.new_slot-slot.result c.args.item c.args.self.now.chains
new g c =
    let s = c.self.inside in
    new_of s.next.items _ s.items.items _ s.chains s.spare _ c.args.item c.args.self.now.chains c.self.invariant.sound (ap (λ r. r.chains) c.self.view_is) (omega (arith, c.requires.spare, ap (λ r. r.spare) c.self.view_is)) c.new_slot-slot.ensures.made

behind : (g : _) (c : After-put_behind g)
    → take c.new_slot-slot.new.next.len (c.put_behind.new.next ++ drop (length c.put_behind.new.next) c.new_slot-slot.new.next.items) ≡ put c.new_slot-slot.new.next.items (c.args.chain + 1) c.new_slot-slot.result
behind g c =
    let made = c.new_slot-slot.new.next in
    written made.len made.items c.put_behind.new.next (put made.items (c.args.chain + 1) c.new_slot-slot.result) made.ok.0 (c.put_behind.ensures ∙ ap (λ l. put l (c.args.chain + 1) c.new_slot-slot.result) c.deref_mut.ensures.value) (put_long made.items (c.args.chain + 1) c.new_slot-slot.result)

pub new_slot-slot-requires : goal.new_slot-slot-requires
new_slot-slot-requires g c =
    let s = c.self.inside in
    has_slot s.next.items s.items.items s.chains s.spare _ _ c.self.invariant (omega (arith, c.requires.spare, ap (λ r. r.spare) c.self.view_is))

pub overflow_add-chain : goal.overflow_add-chain
overflow_add-chain g c =
    let s = c.self.inside in
    let chain = chain_of s.next.items s.items.items s.chains s.spare c.args.chain c.args.self.now.chains c.self.invariant.sound (ap (λ r. r.chains) c.self.view_is) c.requires.chain in
    omega (arith, chain.within)

pub put_behind-requires-clause-cell : goal.put_behind-requires-clause-cell
put_behind-requires-clause-cell g c =
    let made = new g (goal.at.put_behind-requires-clause-cell g c).After-new_slot-slot in
    let chain = chain_of _ _ c.self.inside.chains _ c.args.chain c.args.self.now.chains made.used.sound made.used.is c.requires.chain in
    omega (arith, chain.room, ap length c.deref_mut.ensures.value)

pub put_behind-requires-clause-new : goal.put_behind-requires-clause-new
put_behind-requires-clause-new g c = omega (arith, (new g (goal.at.put_behind-requires-clause-new g c).After-new_slot-slot).ready.within, ap length c.deref_mut.ensures.value)

pub invariant_of-self : goal.invariant_of-self
invariant_of-self g c =
    let s = c.self.inside in
    let place = goal.at.invariant_of-self g c in
    let used = put_first_is _ _ c.self.inside.chains _ _ c.args.self.now.chains _ c.args.item c.args.chain (c.args.chain + 1) _ (new g place.After-new_slot-slot) c.requires.chain (omega arith) (behind g place.After-put_behind) in
    kept_room _ s.next.items _ s.items.items s.chains (s.spare - 1) s.spare _ _ _ _ _ used c.self.invariant c.new_slot-slot.ensures.room c.new_slot-slot.ensures.room_items

pub returns-clause-chains : goal.returns-clause-chains
returns-clause-chains g c =
    let place = goal.at.returns-clause-chains g c in
    let used = put_first_is _ _ c.self.inside.chains _ _ c.args.self.now.chains _ c.args.item c.args.chain (c.args.chain + 1) _ (new g place.After-new_slot-slot) c.requires.chain (omega arith) (behind g place.After-put_behind) in
    used.is

pub returns-clause-unused : goal.returns-clause-unused
returns-clause-unused g c = unused _ _ c.self.inside.chains _ _ _ c.args.item c.args.self.now.chains (new g (goal.at.returns-clause-unused g c).After-new_slot-slot)
