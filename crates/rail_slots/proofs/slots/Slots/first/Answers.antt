use Rattle.std.proofs.Common.{◌≡◌, ◌+◌, ◌<◌, suc, get_or, length, None, sym, ap, ◌∙◌, arith}
use Rattle.std.proofs.lemmas.List.{get_or_read}
use Rattle.rail_slots.proofs.Shown.{chain_of, chain_fits}
use Rattle.rail_slots.proofs.slots.Slots.first.Goals as goal

pub overflow_add-chain : goal.overflow_add-chain
overflow_add-chain g c =
    let s = c.self.inside in
    let chain = chain_of s.next.items s.items.items s.chains s.spare c.args.chain c.args.self.now.chains c.self.invariant.sound (ap (λ r. r.chains) c.self.view_is) c.requires in
    omega (arith, chain.within)

pub index-requires : goal.index-requires
index-requires g c =
    let s = c.self.inside in
    let chain = chain_of s.next.items s.items.items s.chains s.spare c.args.chain c.args.self.now.chains c.self.invariant.sound (ap (λ r. r.chains) c.self.view_is) c.requires in
    omega (arith, chain.room, s.next.ok.0)

pub returns-clause-first : goal.returns-clause-first
returns-clause-first g c =
    let s = c.self.inside in
    let chain = chain_of s.next.items s.items.items s.chains s.spare c.args.chain c.args.self.now.chains c.self.invariant.sound (ap (λ r. r.chains) c.self.view_is) c.requires in
    let e : c.args.chain + 1 ≡ suc c.args.chain = omega arith in
    let inside : c.args.chain + 1 < length s.next.items = omega (arith, chain.room) in
    c.cell.ensures ∙ get_or_read s.next.items _ _ inside c.index.ensures None ∙ ap (λ n. get_or s.next.items n None) e ∙ sym chain.first

pub returns-clause-fits : goal.returns-clause-fits
returns-clause-fits g c =
    let s = c.self.inside in
    let long = chain_fits s.next.items s.items.items s.chains s.spare c.args.chain c.args.self.now.chains c.self.invariant.sound (ap (λ r. r.chains) c.self.view_is) c.requires in
    omega (arith, long, s.next.ok.0, s.next.ok.1)
