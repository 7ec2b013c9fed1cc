-- The least open bound among the first ones.
use Rattle.std.proofs.Common.{◌≡◌, ℕ, ◌<◌, ◌≤◌, true, List}
use Rattle.rail_capacity.specs.declared.bounds.TrainBound.{TrainBound}
use Rattle.rail_capacity.specs.Bounds.{is_open, bound_of, limit_of}

pub record IsLeastSoFar (table : List TrainBound) (n t bound : ℕ) : Type 0 where
  pub known : t < n
  pub opened : is_open (bound_of table t) ≡ true
  pub bound_is : limit_of table t ≡ bound
  pub least : (v : ℕ) → v < n → is_open (bound_of table v) ≡ true → bound ≤ limit_of table v
