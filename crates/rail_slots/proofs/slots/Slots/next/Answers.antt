use Rattle.std.proofs.Common.{◌≡◌, ◌+◌, ◌<◌, IfSome, None, length, map, sym, ap, subst, ◌∙◌, arith}
use Rattle.std.proofs.lemmas.List.{get_or_read}
use Rattle.rail_slots.specs.Slots.{left_from}
use Rattle.rail_slots.specs.Links.{held, lists_of}
use Rattle.rail_slots.proofs.Ahead.{left_next}
use Rattle.rail_slots.proofs.Shown.{standing_of}
use Rattle.rail_slots.proofs.slots.Slots.next.Goals as goal

pub index-requires : goal.index-requires
index-requires g c =
    let s = c.self.inside in
    let there = standing_of s.next.items s.items.items s.chains s.spare c.args.slot c.requires.chain c.args.self.now.chains c.requires.before c.requires.item c.requires.rest c.self.invariant.sound (ap (λ r. r.chains) c.self.view_is) c.requires.at in
    omega (arith, there.room, s.next.ok.0)

pub returns-clause-next : goal.returns-clause-next
returns-clause-next g c = λ chain before rest item stands.
    let s = c.self.inside in
    let there = standing_of s.next.items s.items.items s.chains s.spare c.args.slot chain c.args.self.now.chains before item rest c.self.invariant.sound (ap (λ r. r.chains) c.self.view_is) stands in
    let inside : c.args.slot < length s.next.items = there.room in
    c.cell.ensures ∙ get_or_read s.next.items _ _ inside c.index.ensures None ∙ there.after

pub returns-clause-nearer : goal.returns-clause-nearer
returns-clause-nearer g c =
    let s = c.self.inside in
    let at = c.requires in
    let chains : map (held s.items.items) (lists_of s.next.items 1 s.chains) ≡ c.args.self.now.chains = ap (λ r. r.chains) c.self.view_is in
    let there = standing_of s.next.items s.items.items s.chains s.spare c.args.slot at.chain c.args.self.now.chains at.before at.item at.rest c.self.invariant.sound chains at.at in
    let nearer = left_next s.next.items s.items.items s.chains s.spare c.args.slot at.chain c.args.self.now.chains at.before at.item at.rest c.cell.result c.self.invariant.sound chains at.at
    (c.cell.ensures ∙ get_or_read s.next.items _ _ there.room c.index.ensures None ∙ there.after) in
    subst (λ shows. IfSome c.cell.result (λ n. left_from shows n + 1 ≡ left_from c.args.self.now.chains c.args.slot)) (sym chains) nearer
