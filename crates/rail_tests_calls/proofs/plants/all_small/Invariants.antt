use Rattle.std.proofs.Common.{◌≡◌, ℕ, ◌<◌, true, take}
use Rattle.rail_base.specs.declared.limits.TheConstants.{SECTIONS}
use Rattle.rail_rules.specs.Numbers.{is_in}
use Rattle.rail_tests_calls.proofs.plants.all_small.Given as goal

abbrev pub invariant-loop-section : goal.invariant-loop-section
invariant-loop-section l = (x : ℕ) → is_in x (take l.section-index l.sections) ≡ true → x < SECTIONS
