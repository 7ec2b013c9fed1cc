use Rattle.std.proofs.Common.{◌≡◌, ℕ, None, OnOk, ap, ◌∙◌, subst}
use Rattle.std.specs.Result.{IfErr}
use Rattle.rail_base.specs.declared.plant.Tables.{Tables}
use Rattle.rail_base.specs.declared.plant.TrainRow.{TrainRow}
use Rattle.rail_plan.specs.MoveTables.{with_moves}
use Rattle.rail_plan.specs.PlanFaults.{IsAnswer, bare, fault_of_train}
use Rattle.rail_plan.proofs.OtherRows.{own_moves}
use Rattle.rail_plan.proofs.making.push_moves_of.Goals as goal

pub returns-clause-accepted : goal.returns-clause-accepted
returns-clause-accepted c =
    let tables = c.args.tables.now in
    let t : ℕ = c.args.train in
    let same : with_moves tables t c.as_slice-2.result.now ≡ tables =
    ap (with_moves tables t) (c.as_slice-2.ensures.value ∙ c.in_ok-rows.ensures ∙ c.as_slice.ensures ∙ ap (λ (r : TrainRow). r.moves) c.train_row.ensures.row) ∙ own_moves tables t in
    let P : Tables → Type 0 = λ given. OnOk c.push_moves.result (fault_of_train (bare given) t ≡ None) in
    subst P same c.push_moves.ensures.accepted

pub returns-clause-refused : goal.returns-clause-refused
returns-clause-refused c =
    let tables = c.args.tables.now in
    let t : ℕ = c.args.train in
    let same : with_moves tables t c.as_slice-2.result.now ≡ tables =
    ap (with_moves tables t) (c.as_slice-2.ensures.value ∙ c.in_ok-rows.ensures ∙ c.as_slice.ensures ∙ ap (λ (r : TrainRow). r.moves) c.train_row.ensures.row) ∙ own_moves tables t in
    let P : Tables → Type 0 = λ given. IfErr c.push_moves.result (IsAnswer (fault_of_train (bare given) t)) in
    subst P same c.push_moves.ensures.refused
