use Rattle.std.proofs.Common.{◌≡◌, ℕ, ◌<◌, get_or, length, map, take, vec_capacity}
use Rattle.rail_base.specs.declared.limits.TheConstants.{SECTIONS}
use Rattle.rail_place.specs.Holdings.{IsShared, owner_in}
use Rattle.rail_place.specs.declared.holdings.Holding.TheVariants.{Free}
use Rattle.rail_place.proofs.holdings.owners_of.Given as goal

abbrev pub invariant-loop-number : goal.invariant-loop-number
invariant-loop-number l = record {
  owners : l.owners.items ≡ map owner_in (take l.number l.holdings);
  single : (x : ℕ) → x < l.number → IsShared (get_or l.holdings x Free) → ⊥;
  long : length l.owners.items ≡ l.number;
  room : vec_capacity l.owners ≡ SECTIONS;
}
