-- Which lines to come stay due under orders, and tests that don't tell told from untold.
use Rattle.std.specs.Prelude.{◌≡◌, ℕ, Bool, true, not, List}
use Rattle.rail_base.specs.declared.history.Entry.{Entry}
use Rattle.rail_base.specs.declared.history.What.{What}
use Rattle.rail_base.specs.declared.history.What.TheVariants.{Ready, Told, Untold}
use Rattle.rail_base.specs.declared.orders.Order.{Order}
use Rattle.rail_rules.specs.Fronts.{at_time}
use Rattle.rail_rules.specs.Orders.{is_cancelled}

-- the line is no ready line of a train that one of the orders cancels
abbrev pub is_kept : List Order → What → Bool
is_kept orders (Ready t m) = not (is_cancelled t orders)
is_kept orders _ = true

-- the test doesn't tell whether a command was told or untold
abbrev pub IsBlind : (Entry → Bool) → Type 0
IsBlind p = (at k : ℕ) → p (at_time at (Told k)) ≡ p (at_time at (Untold k))
