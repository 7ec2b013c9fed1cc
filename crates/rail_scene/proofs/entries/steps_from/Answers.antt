use Rattle.rail_scene.specs.Entries.{steps_from}
use Rattle.rail_scene.proofs.Steps.{steps_kept}
use Rattle.rail_scene.proofs.entries.steps_from.Goals as goal

pub loop-rest-preserved : goal.loop-rest-preserved
loop-rest-preserved c =
    steps_kept c.loop-rest.steps.items _ c.loop-rest.joint c.loop-rest.rest.now (steps_from c.args.start c.args.names.now) c.section-item.result c.next-item.result c.in-len2-up.len_at_least c.section-item.is c.next-item.is c.in_ok-push.ensures c.loop-rest.invariant
