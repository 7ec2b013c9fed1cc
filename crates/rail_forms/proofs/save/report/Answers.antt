use Rattle.rail_forms.proofs.Writes.{all_written, ended-failed, fault_written}
use Rattle.rail_forms.proofs.save.report.Goals as goal

pub returns-in_err-save-clause-writes : goal.returns-in_err-save-clause-writes
returns-in_err-save-clause-writes g c = fault_written g.O.Sink _ _ _ (ended-failed c.from_residual.result c.from_residual.ensures.1) c.in_err-save.ensures.failed_rose c.in_err-save.ensures.faults_never_fall

pub returns-clause-writes : goal.returns-clause-writes
returns-clause-writes g c = all_written g.O.Sink _ _ c.in_ok-save.ensures.faults_never_fall
