use Rattle.std.proofs.Common.{◌≡◌, ◌+◌, ◌<◌, get_or, length, set, [], Some, None, refl, sym, ap, ◌∙◌, arith}
use Rattle.std.proofs.lemmas.List.{get_or_read, set-get_or}
use Rattle.rail_slots.specs.Slots.{first_item, behind_first}
use Rattle.rail_slots.specs.Links.{put, taken}
use Rattle.rail_slots.proofs.Shown.{kept_room, chain_of, written, made_long, no_first, take_first_is, one_more, slot_room, first_some}
use Rattle.rail_slots.proofs.slots.Slots.take_first.Goals.{After-cell, In-Some, After-free_behind, After-index-2}
use Rattle.rail_slots.proofs.slots.Slots.take_first.Goals as goal

-- what the cell before the chain leads to
read : (g : _) (c : After-cell g) → c.cell.result ≡ get_or c.self.inside.next.items (c.args.chain + 1) None
read g c =
    let s = c.self.inside in
    let chain = chain_of s.next.items s.items.items s.chains s.spare c.args.chain c.args.self.now.chains c.self.invariant.sound (ap (λ r. r.chains) c.self.view_is) c.requires in
    let inside : c.args.chain + 1 < length s.next.items = omega (arith, chain.room) in
    c.cell.ensures ∙ get_or_read s.next.items _ _ inside c.index.ensures None

behind : (g : _) (c : In-Some g) → get_or c.self.inside.next.items (c.args.chain + 1) None ≡ Some c.in-Some.slot
behind g c =
    let s = c.self.inside in
    let chain = chain_of s.next.items s.items.items s.chains s.spare c.args.chain c.args.self.now.chains c.self.invariant.sound (ap (λ r. r.chains) c.self.view_is) c.requires in
    let inside : c.args.chain + 1 < length s.next.items = omega (arith, chain.room) in
    sym (c.cell.ensures ∙ get_or_read s.next.items _ _ inside c.index.ensures None) ∙ c.in-Some.is

within : (g : _) (c : In-Some g) → c.in-Some.slot < length c.self.inside.next.items
within g c =
    let s = c.self.inside in
    slot_room s.next.items s.items.items s.chains s.spare c.args.chain (c.args.chain + 1) c.in-Some.slot c.args.self.now.chains c.self.invariant.sound (ap (λ r. r.chains) c.self.view_is) c.requires (omega arith) (behind g c)

made : (g : _) (c : After-free_behind g) → c.free_behind.new.next ≡ put (taken c.self.inside.next.items (c.args.chain + 1) c.in-Some.slot) 0 c.in-Some.slot
made g c = c.free_behind.ensures ∙ ap (λ l. put (taken l (c.args.chain + 1) c.in-Some.slot) 0 c.in-Some.slot) c.deref_mut.ensures.value

pub overflow_add-chain : goal.overflow_add-chain
overflow_add-chain g c =
    let s = c.self.inside in
    let chain = chain_of s.next.items s.items.items s.chains s.spare c.args.chain c.args.self.now.chains c.self.invariant.sound (ap (λ r. r.chains) c.self.view_is) c.requires in
    omega (arith, chain.within)

pub index-requires : goal.index-requires
index-requires g c =
    let s = c.self.inside in
    let chain = chain_of s.next.items s.items.items s.chains s.spare c.args.chain c.args.self.now.chains c.self.invariant.sound (ap (λ r. r.chains) c.self.view_is) c.requires in
    omega (arith, chain.room, s.next.ok.0)

pub overflow_add-chain-2 : goal.overflow_add-chain-2
overflow_add-chain-2 g c =
    let s = c.self.inside in
    let chain = chain_of s.next.items s.items.items s.chains s.spare c.args.chain c.args.self.now.chains c.self.invariant.sound (ap (λ r. r.chains) c.self.view_is) c.requires in
    omega (arith, chain.within)

pub returns-in_default-clause-item : goal.returns-in_default-clause-item
returns-in_default-clause-item g c =
    let s = c.self.inside in
    let none = sym (read g (goal.at.returns-in_default-clause-item g c).After-cell) ∙ c.in_default.is in
    sym (ap first_item (no_first s.next.items s.items.items s.chains s.spare c.args.chain (c.args.chain + 1) c.args.self.now.chains c.self.invariant.sound (ap (λ r. r.chains) c.self.view_is) c.requires (omega arith) none))

pub returns-in_default-clause-chains : goal.returns-in_default-clause-chains
returns-in_default-clause-chains g c =
    let s = c.self.inside in
    let none = sym (read g (goal.at.returns-in_default-clause-chains g c).After-cell) ∙ c.in_default.is in
    let nothing = no_first s.next.items s.items.items s.chains s.spare c.args.chain (c.args.chain + 1) c.args.self.now.chains c.self.invariant.sound (ap (λ r. r.chains) c.self.view_is) c.requires (omega arith) none in
    ap (λ r. r.chains) c.self.view_is
    ∙ sym (ap (λ l. set c.args.self.now.chains c.args.chain l) (ap behind_first nothing ∙ sym nothing) ∙ set-get_or c.args.self.now.chains c.args.chain [])

pub free_behind-requires-clause-cell : goal.free_behind-requires-clause-cell
free_behind-requires-clause-cell g c =
    let s = c.self.inside in
    let chain = chain_of s.next.items s.items.items s.chains s.spare c.args.chain c.args.self.now.chains c.self.invariant.sound (ap (λ r. r.chains) c.self.view_is) c.requires in
    omega (arith, chain.room, ap length c.deref_mut.ensures.value)

pub free_behind-requires-clause-slot : goal.free_behind-requires-clause-slot
free_behind-requires-clause-slot g c = omega (arith, within g (goal.at.free_behind-requires-clause-slot g c).In-Some, ap length c.deref_mut.ensures.value)

pub index-requires-2 : goal.index-requires-2
index-requires-2 g c = omega (arith, within g (goal.at.index-requires-2 g c).In-Some, c.self.invariant.sound.items, c.self.inside.items.ok.0)

pub invariant_of-self : goal.invariant_of-self
invariant_of-self g c = c.self.invariant

pub invariant_of-self-2 : goal.invariant_of-self-2
invariant_of-self-2 g c =
    let s = c.self.inside in
    let place = goal.at.invariant_of-self-2 g c in
    let after = written s.next.len s.next.items c.free_behind.new.next (put (taken s.next.items (c.args.chain + 1) c.in-Some.slot) 0 c.in-Some.slot) s.next.ok.0 (made g place.After-free_behind) (made_long s.next.items (c.args.chain + 1) 0 c.in-Some.slot) in
    let done = take_first_is s.next.items s.items.items s.chains s.spare c.args.chain (c.args.chain + 1) c.in-Some.slot c.args.self.now.chains _ c.self.invariant.sound (ap (λ r. r.chains) c.self.view_is) c.requires (omega arith) (behind g place.In-Some) after in
    kept_room _ s.next.items s.items.items s.items.items s.chains (s.spare + 1) s.spare _ _ _ _ _ done.0 c.self.invariant refl refl

pub returns-clause-item : goal.returns-clause-item
returns-clause-item g c =
    let s = c.self.inside in
    let place = goal.at.returns-clause-item g c in
    let after = written s.next.len s.next.items c.free_behind.new.next (put (taken s.next.items (c.args.chain + 1) c.in-Some.slot) 0 c.in-Some.slot) s.next.ok.0 (made g place.After-free_behind) (made_long s.next.items (c.args.chain + 1) 0 c.in-Some.slot) in
    let done = take_first_is s.next.items s.items.items s.chains s.spare c.args.chain (c.args.chain + 1) c.in-Some.slot c.args.self.now.chains _ c.self.invariant.sound (ap (λ r. r.chains) c.self.view_is) c.requires (omega arith) (behind g place.In-Some) after in
    let inside : c.in-Some.slot < length s.items.items = omega (arith, within g place.In-Some, c.self.invariant.sound.items) in
    get_or_read s.items.items _ _ inside c.index-2.ensures None ∙ done.1

pub returns-clause-chains : goal.returns-clause-chains
returns-clause-chains g c =
    let s = c.self.inside in
    let place = goal.at.returns-clause-chains g c in
    let after = written s.next.len s.next.items c.free_behind.new.next (put (taken s.next.items (c.args.chain + 1) c.in-Some.slot) 0 c.in-Some.slot) s.next.ok.0 (made g place.After-free_behind) (made_long s.next.items (c.args.chain + 1) 0 c.in-Some.slot) in
    let done = take_first_is s.next.items s.items.items s.chains s.spare c.args.chain (c.args.chain + 1) c.in-Some.slot c.args.self.now.chains _ c.self.invariant.sound (ap (λ r. r.chains) c.self.view_is) c.requires (omega arith) (behind g place.In-Some) after in
    done.0.is

pub returns-clause-spare : goal.returns-clause-spare
returns-clause-spare g c =
    let s = c.self.inside in
    let place = goal.at.returns-clause-spare g c in
    let some = first_some s.next.items s.items.items s.chains s.spare c.args.chain (c.args.chain + 1) c.in-Some.slot c.args.self.now.chains c.self.invariant.sound (ap (λ r. r.chains) c.self.view_is) c.requires (omega arith) (behind g place.In-Some) in
    let inside : c.in-Some.slot < length s.items.items = omega (arith, within g place.In-Some, c.self.invariant.sound.items) in
    one_more c.index-2.result.now some.0 (s.spare + 1) c.args.self.now.spare (get_or_read s.items.items _ _ inside c.index-2.ensures None ∙ some.1) (ap (λ r. r.spare + 1) c.self.view_is)
