use Rattle.std.proofs.Common.{◌≡◌, ℕ, ◌*◌, ◌<◌, ◌||◌, List, length, take}
use Rattle.rail_rules.specs.Numbers.{is_in}
use Rattle.rail_sets.specs.Sets.{has}
use Rattle.rail_sets.proofs.sets.add_all.Given as goal

pub record HasAll (old new sections : List ℕ) (n : ℕ) : Type 0 where
  pub long : length new ≡ length old
  pub added : (x : ℕ) → x < 64 * length old → has new x ≡ (has old x || is_in x (take n sections))

abbrev pub invariant-loop-section : goal.invariant-loop-section
invariant-loop-section l = HasAll l.fn.set l.set l.sections l.section-index
