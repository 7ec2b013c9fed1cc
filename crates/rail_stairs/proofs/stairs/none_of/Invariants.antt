use Rattle.std.proofs.Common.{◌≡◌, []}
use Rattle.rail_rules.specs.Numbers.{listed}
use Rattle.rail_stairs.proofs.stairs.none_of.Given as goal

abbrev pub invariant-loop : goal.invariant-loop
invariant-loop l = l.admissions.items ≡ listed (λ _. []) l.counter
