use Rattle.std.proofs.Common.{◌≡◌, ℕ, List, Option, None, arith, subst}
use Rattle.std.proofs.lemmas.Grind.{common_steps}
use Rattle.rail_base.specs.declared.plant.Call.{Call}
use Rattle.rail_base.specs.declared.plant.Tables.{Tables}
use Rattle.rail_plan.specs.CallTables.{AreCallsFor, call_at}
use Rattle.rail_timetable.specs.Timetables.{calls_in, timetable_refusal}
use Rattle.rail_timetable.proofs.SpelledCalls.{spelled_calls}
use Rattle.rail_timetable.proofs.timetable.read_timetable.Goals as goal

pub returns-clause-spelled : goal.returns-clause-spelled
returns-clause-spelled c =
    let tables : Tables = c.args.plant.now.tables in
    let accepted : timetable_refusal tables c.args.bytes.now ≡ None = grind (arith, common_steps) in
    let calls : c.read_records.new.calls ≡ calls_in tables c.args.bytes.now = grind (arith, common_steps) in
    let empty = c.in_ok-calls.ensures.empty in
    spelled_calls tables c.args.bytes.now
    (subst (λ (calls : List (List (Option Call))). AreCallsFor tables calls) empty c.in_ok-calls.ensures.made)
    (subst (λ (calls : List (List (Option Call))). (t place : ℕ) → call_at calls t place ≡ None) empty c.in_ok-calls.ensures.free)
    c.read_records.new.calls accepted calls
