use Rattle.std.proofs.Common.{◌≡◌, ℕ, ◌<◌, ◌≤◌, List, length, get_or, w64}
use Rattle.std.specs.Prelude.{bit_and, bit_or}
use Rattle.std.specs.Int.{bit_not}
use Rattle.rail_sets.proofs.sets.replace.Given as goal

pub record IsReplaced (old new gone come : List ℕ) (n : ℕ) : Type 0 where
  pub long : length new ≡ length old
  pub replaced : (j : ℕ) → j < n → get_or new j 0 ≡ bit_or (bit_and (get_or old j 0) (bit_not w64 (get_or gone j 0))) (get_or come j 0)
  pub rest : (j : ℕ) → n ≤ j → get_or new j 0 ≡ get_or old j 0

abbrev pub invariant-loop-index : goal.invariant-loop-index
invariant-loop-index l = IsReplaced l.fn.set l.set l.gone l.come l.index
