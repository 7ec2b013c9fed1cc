use Rattle.std.proofs.Common.{◌≡◌, map, take}
use Rattle.rail_scene.specs.declared.scene.SceneTrain.{SceneTrain}
use Rattle.rail_reroute.proofs.proposals.train_names.Given as goal

abbrev pub invariant-loop-train : goal.invariant-loop-train
invariant-loop-train l = l.names.keys ≡ map (λ (train : SceneTrain). train.name) (take l.train-index l.trains)
