use Rattle.std.proofs.Common.{◌≡◌, ◌∷◌, [], ◌++◌, take}
use Rattle.std.specs.List.{flat_map}
use Rattle.rail_routes.specs.declared.items.Step.{Step}
use Rattle.rail_scene_text.proofs.tables.push_steps.Given as goal

abbrev pub invariant-loop-step : goal.invariant-loop-step
invariant-loop-step l =
    l.names.items ≡ l.initial.names.items ++ flat_map (λ (step : Step). step.section ∷ step.to ∷ []) (take l.step-index l.steps)
