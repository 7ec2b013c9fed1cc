use Rattle.std.proofs.Common.{◌≡◌, true, nat_lt, take}
use Rattle.std.specs.List.{list_all}
use Rattle.rail_policy.proofs.deck.read_marks_of.Given as goal

abbrev pub invariant-loop-policy : goal.invariant-loop-policy
invariant-loop-policy g l = list_all (λ policy. nat_lt (g.P.Policy.seat policy).mark 65536) (take l.policy-index l.fn.deck) ≡ true
