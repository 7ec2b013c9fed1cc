-- What may remain at the end of a history.
use Rattle.std.specs.Prelude.{◌≡◌, ℕ, false}
use Rattle.rail_rules.specs.Fronts.{Front}
use Rattle.rail_rules.specs.Orders.{Input, told, is_closed, is_stopped, is_cancelled}

-- no closure and no stop remains
pub record NothingIsBarred (input : Input) (front : Front) : Type 0 where
  pub opened : (x : ℕ) → is_closed x (told input.commands front) ≡ false
  pub going : (t : ℕ) → is_stopped t (told input.commands front) ≡ false

-- nobody was cancelled
abbrev pub NobodyIsCancelled : Input → Front → Type 0
NobodyIsCancelled input front = (t : ℕ) → is_cancelled t (told input.commands front) ≡ false
