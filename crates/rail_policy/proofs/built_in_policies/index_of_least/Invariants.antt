use Rattle.std.proofs.Common.{◌≡◌, get_or}
use Rattle.rail_policy.proofs.Least.{IsLeastOf}
use Rattle.rail_policy.proofs.built_in_policies.index_of_least.Given as goal

abbrev pub invariant-loop-index : goal.invariant-loop-index
invariant-loop-index l = record {
  least : IsLeastOf l.kind l.mark l.offers l.index l.least;
  first : l.first ≡ get_or l.offers l.least l.first;
}
