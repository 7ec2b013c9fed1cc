use Rattle.std.proofs.Common.{◌≡◌, ◌≤◌, ◌*◌, take}
use Rattle.std.specs.List.{sum_by}
use Rattle.rail_forms.specs.Infra.{step_length}
use Rattle.rail_forms.proofs.infra.route_length.Given as goal

abbrev pub invariant-loop-step : goal.invariant-loop-step
invariant-loop-step l = (l.metres ≡ sum_by (step_length l.network.sections) (take l.step-index l.step-items)) × (l.metres ≤ 4294967295 * l.step-index)
