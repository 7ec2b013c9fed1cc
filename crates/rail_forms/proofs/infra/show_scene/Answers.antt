use Rattle.rail_forms.proofs.Writes.{ended-failed, fault_written}
use Rattle.rail_forms.proofs.infra.show_scene.Goals as goal

pub returns-in_err-write_scene-clause-writes : goal.returns-in_err-write_scene-clause-writes
returns-in_err-write_scene-clause-writes g c = fault_written g.O.Sink _ _ _ (ended-failed c.from_residual-in_err-write_scene.result c.from_residual-in_err-write_scene.ensures.1)
    c.in_err-write_scene.ensures.failed_rose c.in_err-write_scene.ensures.faults_never_fall
