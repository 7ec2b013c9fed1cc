use Rattle.rail_base.specs.declared.plant.TrainKind.{TrainKind}
use Rattle.rail_plan.proofs.CallerLemmas.{inserted}
use Rattle.rail_compile.proofs.Names.{distinct_from_apart}
use Rattle.rail_compile.proofs.compiling.kinds.kind_names.Goals as goal

pub loop-kind-preserved : goal.loop-kind-preserved
loop-kind-preserved c =
    inserted (λ (kind : TrainKind). kind.name) c.args.kinds.now c.loop-kind.kind-index c.kind-item.result c.loop-kind.names.keys c.insert.new.self.keys
    (distinct_from_apart (λ (kind : TrainKind). kind.name) c.args.kinds.now c.requires) c.loop-kind-test.true c.kind-item.is c.loop-kind.invariant c.in_ok-insert.ensures.keys
