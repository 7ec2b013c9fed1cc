use Rattle.std.proofs.Common.{◌-◌, ◌∙◌, List, ℕ, get_or, set, ap, arith}
use Rattle.std.proofs.lemmas.List.{get_or_default}
use Rattle.rail_delay.specs.declared.visits.Visit.{Visit}
use Rattle.rail_delay.proofs.VisitSets.{set_view}
use Rattle.rail_delay.proofs.visits.set_visit.Goals as goal

pub returns-then-index-rows : goal.returns-then-index-rows
returns-then-index-rows c =
    let rows = c.args.rows.now in
    let k = c.from-index.result in
    let row = get_or rows k c.index-rows-index.result in
    set_view rows k c.args.train row (c.args.place - 1) c.args.visit c.set_at.new.row (c.from-index.ensures ∙ c.train.view_is) (omega (arith, c.if-index-rows.true))
    (get_or_default rows k c.index-rows-index.result row (omega (arith, c.if-index-rows.true)))
    (c.set_at.ensures
    ∙ ap (λ (xs : List Visit). set xs (c.from.result - 1) c.args.visit) c.deref_mut.ensures.value
    ∙ ap (λ (i : ℕ). set row.items (i - 1) c.args.visit) c.from.ensures)
