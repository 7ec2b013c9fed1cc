use Rattle.std.proofs.Common.{◌∙◌}
use Rattle.toml.specs.View.{view}
use Rattle.rail_base.proofs.CallerLemmas.{passed_up}
use Rattle.rail_scene.proofs.Whole.{values_none, at_root, at_lists}
use Rattle.rail_scene.proofs.Spelled.{scene_is}
use Rattle.rail_scene.proofs.reading.read_values.Goals as goal

pub returns-in-Err-clause-refused : goal.returns-in-Err-clause-refused
returns-in-Err-clause-refused c = rw c.located.ensures (at_root c.args.version (view c.args.root.now) c.in-Err.fault c.in-Err.ensures.refused)

pub returns-in_err-draft-clause-refused : goal.returns-in_err-draft-clause-refused
returns-in_err-draft-clause-refused c =
    passed_up c.from_residual.result _ _ c.from_residual.ensures.1
    (at_lists c.args.version (view c.args.root.now) c.in-Ok.ensures.accepted _ c.in_err-draft.ensures.refused)

pub returns-clause-accepted : goal.returns-clause-accepted
returns-clause-accepted c = values_none c.args.version (view c.args.root.now) c.in-Ok.ensures.accepted c.in_ok-draft.ensures.accepted

pub returns-clause-spelled : goal.returns-clause-spelled
returns-clause-spelled c =
    c.finished.ensures.scene
    ∙ scene_is c.args.version (view c.args.root.now) c.in_ok-draft.draft c.in-Ok.header c.in_ok-draft.ensures.draft c.in-Ok.ensures.release c.in-Ok.ensures.depth c.in-Ok.ensures.policy c.in-Ok.ensures.overlap_time
