use Rattle.std.proofs.Common.{◌≡◌, ◌+◌, false}
use Rattle.rail_rules.specs.Numbers.{any_below, is_in}
use Rattle.rail_place.specs.Tables.{moves_in}
use Rattle.rail_place.proofs.moves.Moves.claims_within.Given as goal

abbrev pub invariant-loop-step : goal.invariant-loop-step
invariant-loop-step l = any_below (λ m. is_in l.section ((moves_in l.self).claim l.train (l.place + m))) l.step ≡ false
