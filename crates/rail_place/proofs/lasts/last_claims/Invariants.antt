use Rattle.std.proofs.Common.{◌≡◌, ℕ, ◌<◌, [], length, get_or}
use Rattle.rail_base.specs.declared.limits.TheConstants.{SECTIONS}
use Rattle.rail_rules.specs.Numbers.{is_in}
use Rattle.rail_place.specs.Lasts.{last_below}
use Rattle.rail_place.proofs.lasts.last_claims.Given as goal

abbrev pub invariant-loop-made : goal.invariant-loop-made
invariant-loop-made l = record {
  wide : length l.lasts.items ≡ SECTIONS;
  told : (x : ℕ) → x < SECTIONS → get_or l.lasts.items x 0 ≡ last_below (λ m. is_in x (get_or l.claims m [])) l.made;
}
