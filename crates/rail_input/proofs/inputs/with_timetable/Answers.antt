use Rattle.std.proofs.Common.{◌≡◌, false}
use Rattle.rail_base.proofs.CallerLemmas.{passed_up}
use Rattle.rail_base.specs.declared.refusals.Fault.{Fault}
use Rattle.rail_input.specs.Inputs.{refuses_file}
use Rattle.rail_input.proofs.OfBytes.{timetable_fault}
use Rattle.rail_input.proofs.inputs.with_timetable.Goals as goal

pub returns-in_err-calls-in-Some-clause-of_bytes : goal.returns-in_err-calls-in-Some-clause-of_bytes
returns-in_err-calls-in-Some-clause-of_bytes c =
    passed_up c.from_residual.result c.in_err-calls-in-Some.field-0.0 (λ (fault : Fault). refuses_file fault ≡ false) c.from_residual.ensures.1
    (timetable_fault c.args.plant.tables c.in-Some.bytes.now c.in_err-calls-in-Some.field-0.0 c.in_err-calls-in-Some.ensures.refused)
