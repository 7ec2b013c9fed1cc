use Rattle.std.proofs.Common.{◌≡◌, map, take, vec_capacity}
use Rattle.rail_policy.specs.Seats.{names_of}
use Rattle.rail_policy.proofs.deck.names_in.Given as goal

abbrev pub invariant-loop-policy : goal.invariant-loop-policy
invariant-loop-policy g l = record {
  names : l.names.items ≡ names_of (map g.P.Policy.seat (take l.policy-index l.fn.deck));
  room : vec_capacity l.names ≡ vec_capacity l.initial.names;
}
