use Rattle.std.proofs.Common.{◌≡◌, length, map}
use Rattle.rail_policy.specs.Seats.{have_distinct_names}
use Rattle.rail_policy.proofs.deck.have_distinct_names.Given as goal

abbrev pub invariant-loop-policy : goal.invariant-loop-policy
invariant-loop-policy g l = have_distinct_names (map g.P.Policy.seat l.fn.deck) ≡ have_distinct_names (map g.P.Policy.seat l.rest)

abbrev pub decreases-loop-policy : goal.decreases-loop-policy
decreases-loop-policy g l = length l.rest
