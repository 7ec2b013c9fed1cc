use Rattle.std.proofs.Common.{Ok, take}
use Rattle.rail_forms.specs.Infra.{route_lines}
use Rattle.rail_text.specs.Writes.{WritesText}
use Rattle.rail_forms.proofs.infra.write_routes.Given as goal

abbrev pub invariant-loop-route : goal.invariant-loop-route
invariant-loop-route g l = WritesText g.O.Sink l.initial.out l.out (route_lines l.network.sections (take l.route-index l.route-items)) (Ok tt)
