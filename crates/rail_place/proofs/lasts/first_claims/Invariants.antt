use Rattle.std.proofs.Common.{◌≡◌, ℕ, suc, ◌<◌, ◌≤◌, false, [], length, get_or}
use Rattle.rail_base.specs.declared.limits.TheConstants.{SECTIONS}
use Rattle.rail_rules.specs.Numbers.{is_in}
use Rattle.rail_place.proofs.lasts.first_claims.Given as goal

abbrev pub invariant-loop-left : goal.invariant-loop-left
invariant-loop-left l = record {
  within : l.left ≤ length l.claims;
  wide : length l.firsts.items ≡ SECTIONS;
  none : (m x : ℕ) → l.left ≤ m → x < SECTIONS → suc m < get_or l.firsts.items x 0 → is_in x (get_or l.claims m []) ≡ false;
}

abbrev pub decreases-loop-left : goal.decreases-loop-left
decreases-loop-left l = l.left
