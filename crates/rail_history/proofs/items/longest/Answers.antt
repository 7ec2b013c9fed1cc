use Rattle.std.proofs.Common.{◌≤◌, List, length, subst, ap, arith}
use Rattle.std.specs.List.{All}
use Rattle.std.proofs.lemmas.List.{take_all}
use Rattle.std.proofs.lemmas.List.Elements.{All-more}
use Rattle.rail_history.specs.declared.items.ListItem.{ListItem}
use Rattle.rail_history.specs.ListItems.{spelled_by}
use Rattle.rail_history.proofs.items.longest.Goals as goal

pub loop-list-preserved : goal.loop-list-preserved
loop-list-preserved c =
    All-more (λ (items : List ListItem). length (spelled_by items) ≤ c.max-most.result) c.args.lists.now c.loop-list.list-index c.list-item.result c.loop-list-test.true
    (λ k d lt. omega (arith, c.loop-list.invariant k d lt, c.max-most.ensures))
    (omega (
      arith,
      ap (λ (items : List ListItem). length (spelled_by items)) c.list-item.is,
      ap (λ (items : List ListItem). length (spelled_by items)) c.as_slice.ensures,
      c.in_ok-length_of.ensures,
      c.max-most.ensures,
    ))

pub returns : goal.returns
returns c = subst (All (λ (items : List ListItem). length (spelled_by items) ≤ c.loop-list.most)) (take_all c.loop-list.list-index c.args.lists.now c.loop-list-test.false) c.loop-list.invariant
