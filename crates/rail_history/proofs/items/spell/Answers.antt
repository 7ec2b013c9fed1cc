use Rattle.std.proofs.Common.{ℕ, length, sym, ap, ◌∙◌, arith}
use Rattle.std.proofs.lemmas.List.{length-replicate}
use Rattle.std.proofs.lemmas.List.Folds.{length-flat_map-take}
use Rattle.rail_history.specs.declared.items.ListItem.{ListItem}
use Rattle.rail_history.specs.ListItems.{copies_of}
use Rattle.rail_history.proofs.items.spell.Goals as goal

pub add_copies-requires : goal.add_copies-requires
add_copies-requires c =
    let item = c.item-item.result in
    let mine = ap (λ (it : ListItem). length (copies_of it)) (sym c.item-item.is) ∙ length-replicate item.count item.train in
    let fits = length-flat_map-take copies_of c.args.items.now c.loop-item.item-index item c.loop-item-test.true in
    omega (arith, fits, mine, ap (length {A = ℕ}) c.loop-item.invariant.spelled, c.loop-item.invariant.room, c.requires)
