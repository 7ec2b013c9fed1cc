-- The order of commands.
use Rattle.std.specs.Prelude.{◌≡◌, ℕ, ◌≤◌, nat_lt, length, slice_get, Some}
use Rattle.rail_base.specs.declared.orders.Command.{Command}
use Rattle.rail_rules.specs.Fronts.{Front}
use Rattle.rail_rules.specs.Orders.{Input}
use Rattle.rail_rules.specs.Events.{is_written}

-- the commands whose lines stand are the first k
pub record AreFirst (input : Input) (front : Front) (k : ℕ) : Type 0 where
  pub few : k ≤ length input.commands
  pub written : (i : ℕ) (command : Command) → slice_get input.commands i ≡ Some command → is_written front command i ≡ nat_lt i k
