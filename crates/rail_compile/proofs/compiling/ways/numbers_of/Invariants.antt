use Rattle.std.proofs.Common.{◌≡◌, map, take}
use Rattle.rail_routes.specs.declared.items.Step.{Step}
use Rattle.rail_compile.specs.Itineraries.{number_of}
use Rattle.rail_compile.proofs.compiling.ways.numbers_of.Given as goal

abbrev pub invariant-loop-step : goal.invariant-loop-step
invariant-loop-step l = l.numbers.items ≡ map (λ (step : Step). number_of l.network step.section) (take l.step-index l.steps)
