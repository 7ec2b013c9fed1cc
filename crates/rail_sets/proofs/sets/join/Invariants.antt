use Rattle.std.proofs.Common.{◌≡◌, ℕ, ◌<◌, ◌≤◌, List, length, get_or}
use Rattle.std.specs.Prelude.{bit_or}
use Rattle.rail_sets.proofs.sets.join.Given as goal

pub record IsJoined (old new other : List ℕ) (n : ℕ) : Type 0 where
  pub long : length new ≡ length old
  pub joined : (j : ℕ) → j < n → get_or new j 0 ≡ bit_or (get_or old j 0) (get_or other j 0)
  pub rest : (j : ℕ) → n ≤ j → get_or new j 0 ≡ get_or old j 0

abbrev pub invariant-loop-index : goal.invariant-loop-index
invariant-loop-index l = IsJoined l.fn.set l.set l.other l.index
