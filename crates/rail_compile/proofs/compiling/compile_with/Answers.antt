use Rattle.std.proofs.Common.{sym, subst}
use Rattle.rail_base.specs.declared.plant.Tables.{Tables}
use Rattle.rail_base.specs.declared.refusals.Fault.{Fault}
use Rattle.rail_base.specs.Refusals.{AnswersFirst}
use Rattle.rail_plan.specs.PlanFaults.{IsAnswer, fault_of}
use Rattle.rail_compile.specs.Itineraries.{tables_of, with_trains}
use Rattle.rail_compile.specs.Refusals.{compile_refusal}
use Rattle.rail_compile.proofs.Tables.{answers_plan}
use Rattle.rail_compile.proofs.compiling.compile_with.Goals as goal

pub returns-in-Err-clause-refused : goal.returns-in-Err-clause-refused
returns-in-Err-clause-refused c =
    let scene = with_trains c.args.scene.now c.args.trains.now in
    let fault = c.in-Err.fault in
    let P : Tables → Type 0 = λ tables. IsAnswer (fault_of tables) fault in
    let Q : Fault → Type 0 = λ answer. AnswersFirst (compile_refusal scene) answer in
    let told : IsAnswer (fault_of (tables_of scene)) fault = subst P c.in_ok-tables.ensures.spelled c.in-Err.ensures.refused in
    subst Q (sym c.fault_for.ensures) (answers_plan scene fault c.in_ok-tables.ensures.accepted told)
