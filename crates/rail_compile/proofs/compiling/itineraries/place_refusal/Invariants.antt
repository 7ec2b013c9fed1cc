use Rattle.std.proofs.Common.{◌≡◌, ◌-◌, drop}
use Rattle.rail_base.specs.FirstRefusals.{first_failing}
use Rattle.rail_compile.specs.Ways.{routes_at}
use Rattle.rail_compile.specs.Refusals.{place_tests}
use Rattle.rail_compile.proofs.compiling.itineraries.place_refusal.Given as goal

abbrev pub invariant-loop-place : goal.invariant-loop-place
invariant-loop-place l = first_failing (place_tests l.network l.item l.place (drop (l.place - 1) (routes_at l.network l.numbers))) ≡ first_failing (place_tests l.network l.item 1 (routes_at l.network l.numbers))
