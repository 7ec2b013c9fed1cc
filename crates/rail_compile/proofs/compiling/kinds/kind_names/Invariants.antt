use Rattle.std.proofs.Common.{◌≡◌, map, take}
use Rattle.rail_base.specs.declared.plant.TrainKind.{TrainKind}
use Rattle.rail_compile.proofs.compiling.kinds.kind_names.Given as goal

abbrev pub invariant-loop-kind : goal.invariant-loop-kind
invariant-loop-kind l = l.names.keys ≡ map (λ (kind : TrainKind). kind.name) (take l.kind-index l.kinds)
