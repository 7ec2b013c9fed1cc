use Rattle.std.proofs.Common.{◌≡◌, List, subst, sym}
use Rattle.std.specs.Result.{IfOk}
use Rattle.rail_routes.specs.declared.items.Step.{Step}
use Rattle.rail_scene.proofs.Steps.{steps_behind-last}
use Rattle.rail_scene.proofs.entries.steps_behind.Goals as goal

pub returns-in-Some-clause-steps : goal.returns-in-Some-clause-steps
returns-in-Some-clause-steps c =
    subst (λ (all : List Step). IfOk c.steps_from.result (λ behind. behind.items ≡ all))
    (sym (steps_behind-last c.args.steps.now c.in-Some.step.now c.args.names.now c.in-Some.ensures.value)) c.steps_from.ensures.steps
