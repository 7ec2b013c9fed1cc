use Rattle.std.proofs.Common.{◌≡◌, ℕ, ◌<◌, length, map, take, arith, ap, ◌∙◌}
use Rattle.std.proofs.lemmas.List.{take_all}
use Rattle.rail_base.proofs.CallerLemmas.{passed_up}
use Rattle.rail_place.specs.Tables.{moves_in}
use Rattle.rail_plan.specs.MoveTables.{spelled}
use Rattle.rail_plan.specs.PlanFaults.{IsAnswer, bare, fault_of, fault_of_train, first_answer}
use Rattle.rail_plan.proofs.Firsts.{answer_first}
use Rattle.rail_plan.proofs.Spelled.{moves_spelled}
use Rattle.rail_plan.proofs.making.moves_of.Goals as goal

pub returns-in_err-push_moves_behind-clause-refused : goal.returns-in_err-push_moves_behind-clause-refused
returns-in_err-push_moves_behind-clause-refused c =
    let tables = c.args.tables.now in
    let t : ℕ = c.loop-index.index in
    let within : t < length tables.trains = omega (arith, c.loop-index-test.true, ap length c.as_slice-index-end.ensures) in
    passed_up c.from_residual-in_err-push_moves_behind.result c.in_err-push_moves_behind.field-0.0 (IsAnswer (fault_of tables)) c.from_residual-in_err-push_moves_behind.ensures.1
    (answer_first (fault_of_train (bare tables)) (length tables.trains) t c.in_err-push_moves_behind.field-0.0 within c.loop-index.invariant.made.none c.in_err-push_moves_behind.ensures.refused)

pub returns-clause-accepted : goal.returns-clause-accepted
returns-clause-accepted c =
    let tables = c.args.tables.now in
    let all : length tables.trains ≡ c.loop-index.index = omega (arith, ap length c.as_slice-index-end.ensures) in
    ap (first_answer (fault_of_train (bare tables))) all ∙ c.loop-index.invariant.made.none

pub returns-clause-table : goal.returns-clause-table
returns-clause-table c =
    let tables = c.args.tables.now in
    let all : take c.loop-index.index tables.trains ≡ tables.trains = take_all c.loop-index.index tables.trains (omega (arith, ap length c.as_slice-index-end.ensures)) in
    c.loop-index.invariant.made.table ∙ ap (map (spelled (bare tables))) all

pub returns-clause-moves : goal.returns-clause-moves
returns-clause-moves c = ap moves_in (returns-clause-table c) ∙ moves_spelled (bare c.args.tables.now)
