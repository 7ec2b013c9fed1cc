use Rattle.rail_forms.proofs.SnapshotAnswers.{on_err, on_ok, run_saved, run_saved_in_part}
use Rattle.rail_forms.proofs.beginning.Begun.save.Goals as goal

pub returns-clause-adds : goal.returns-clause-adds
returns-clause-adds g c = on_ok c.save.result
    (λ saved. run_saved _ _ _ _ _ _ c.args.self.engine.core.input c.save.ensures.input c.requires.begun.marks saved) c.save.ensures.saved

pub returns-clause-failed_adds_prefix : goal.returns-clause-failed_adds_prefix
returns-clause-failed_adds_prefix g c = on_err c.save.result
    (λ saved. run_saved_in_part _ _ _ _ _ _ c.args.self.engine.core.input c.save.ensures.input saved) c.save.ensures.failed
