use Rattle.std.proofs.Common.{List, ℕ, ◌++◌, ap, sym, ◌∙◌}
use Rattle.std.proofs.lemmas.List.{take_rest}
use Rattle.rail_history.specs.ListItems.{spelled_by}
use Rattle.rail_history.proofs.ItemRuns.{spelled_on}
use Rattle.rail_history.proofs.items.items_of.Goals as goal

pub loop-train-preserved : goal.loop-train-preserved
loop-train-preserved c =
    let left : List ℕ = c.loop-train.left.now in
    let parts = c.in-Some.ensures.cases.0 in
    let whole = ap (λ (rest : List ℕ). spelled_by c.loop-train.items.items ++ rest) (sym parts) ∙ c.loop-train.invariant in
    rw (take_rest, c.in_ok-push.ensures.items) (spelled_on c.loop-train.items.items c.in-Some.train.now c.repeats-more.result c.in-Some.others.now c.args.list.now c.repeats-more.ensures.count whole)
