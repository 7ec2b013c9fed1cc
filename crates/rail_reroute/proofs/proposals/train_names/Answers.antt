use Rattle.rail_scene.specs.declared.scene.SceneTrain.{SceneTrain}
use Rattle.rail_plan.proofs.CallerLemmas.{inserted}
use Rattle.rail_compile.proofs.CallerLemmas.{distinct_from_apart}
use Rattle.rail_reroute.proofs.proposals.train_names.Goals as goal

pub loop-train-preserved : goal.loop-train-preserved
loop-train-preserved c =
    inserted (λ (train : SceneTrain). train.name) c.args.trains.now c.loop-train.train-index c.train-item.result c.loop-train.names.keys c.insert.new.self.keys
    (distinct_from_apart (λ (train : SceneTrain). train.name) c.args.trains.now c.requires) c.loop-train-test.true c.train-item.is c.loop-train.invariant c.in_ok-insert.ensures.keys
