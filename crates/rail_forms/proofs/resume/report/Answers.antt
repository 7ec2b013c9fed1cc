use Rattle.std.proofs.Common.{◌≡◌, refl, subst, sym, true}
use Rattle.rail_laws_events.proofs.CallerLemmas.{input_parts}
use Rattle.rail_laws_text.proofs.CallerLemmas.{accepted_named}
use Rattle.rail_forms.specs.declared.status.Status.{Status}
use Rattle.rail_forms.specs.Answers.{status_of}
use Rattle.rail_forms.specs.BegunRuns.{input_of}
use Rattle.rail_forms.specs.Promises.{is_of_bytes}
use Rattle.rail_forms.proofs.Answers.{ended_with}
use Rattle.rail_forms.proofs.SnapshotAnswers.{of_bytes_refused, resumed_cut, resumed_whole, snapshot_refused}
use Rattle.rail_forms.proofs.Writes.{all_written, ended-failed, fault_written, unwritten_fault}
use Rattle.rail_forms.proofs.resume.report.Goals as goal

pub write_rest-requires : goal.write_rest-requires
write_rest-requires g c =
    let resumed = c.in_ok-engine.ensures.resumed in
    record { somewhere = record { seats = _; front = _; stands = resumed.stands } }

pub returns-in_err-engine-clause-answer : goal.returns-in_err-engine-clause-answer
returns-in_err-engine-clause-answer g c =
    let input = input_of c.args.begun in
    snapshot_refused input _ (accepted_named input.plant (input_parts input c.requires.begun.stands.at.accepted).0) c.args.snapshot.now _ _ _ c.in_err-engine.field-0.0
    (ended_with c.from_residual.result (status_of c.in_err-engine.field-0.0) c.from_residual.ensures.1) c.in_err-engine.ensures.refused

pub returns-in_err-engine-clause-writes : goal.returns-in_err-engine-clause-writes
returns-in_err-engine-clause-writes g c = unwritten_fault g.O.Sink _ c.in_err-engine.field-0.0 _
    (ended_with c.from_residual.result (status_of c.in_err-engine.field-0.0) c.from_residual.ensures.1)

pub returns-in_err-engine-clause-of_bytes : goal.returns-in_err-engine-clause-of_bytes
returns-in_err-engine-clause-of_bytes g c =
    subst (λ (status : Status). is_of_bytes status ≡ true) (sym (ended_with c.from_residual.result (status_of c.in_err-engine.field-0.0) c.from_residual.ensures.1))
    (of_bytes_refused _ _ _ c.in_err-engine.field-0.0 c.in_err-engine.ensures.refused)

pub returns-in_err-write_rest-clause-answer : goal.returns-in_err-write_rest-clause-answer
returns-in_err-write_rest-clause-answer g c =
    let resumed = c.in_ok-engine.ensures.resumed in
    resumed_cut _ _ _ _ c.args.begun.engine.core.input c.in_ok-engine.ensures.input _ _ _ resumed
    (ended-failed c.from_residual-in_err-write_rest.result c.from_residual-in_err-write_rest.ensures.1)
    (c.in_err-write_rest.ensures.failed _ resumed.lines resumed.stands)

pub returns-in_err-write_rest-clause-writes : goal.returns-in_err-write_rest-clause-writes
returns-in_err-write_rest-clause-writes g c = fault_written g.O.Sink _ _ _
    (ended-failed c.from_residual-in_err-write_rest.result c.from_residual-in_err-write_rest.ensures.1)
    c.in_err-write_rest.ensures.failed_rose c.in_err-write_rest.ensures.faults_never_fall

pub returns-clause-answer : goal.returns-clause-answer
returns-clause-answer g c =
    let resumed = c.in_ok-engine.ensures.resumed in
    resumed_whole _ _ _ _ c.args.begun.engine.core.input c.in_ok-engine.ensures.input _ _ _ resumed refl
    (c.in_ok-write_rest.ensures.written _ resumed.lines c.requires.begun.marks resumed.stands)

pub returns-clause-writes : goal.returns-clause-writes
returns-clause-writes g c = all_written g.O.Sink _ _ c.in_ok-write_rest.ensures.faults_never_fall
