-- The orders of the commands that were told.
use Rattle.std.specs.Prelude.{ℕ, ◌-◌, ◌==◌, Bool, true, false, not, ◌&&◌, ◌||◌, cond, List, [], ◌∷◌, ◌++◌, length, get_or, slice_get, Option, Some, None}
use Rattle.std.specs.List.{list_any}
use Rattle.rail_base.specs.declared.history.What.{What}
use Rattle.rail_base.specs.declared.history.What.TheVariants.{Told}
use Rattle.rail_base.specs.declared.orders.Command.{Command}
use Rattle.rail_base.specs.declared.orders.Order.{Order}
use Rattle.rail_base.specs.declared.orders.Order.TheVariants.{Policy, Retire, Close, Reopen, Stop, Go, Cancel, Priority}
use Rattle.rail_rules.specs.Numbers.{same_numbers}
use Rattle.rail_rules.specs.Plant.{Plant}
use Rattle.rail_rules.specs.Fronts.{Front, admissions}

-- what a history is lawful for: a plant, its commands, and the names of the deck with the place of the one first in force
pub record Input : Type 0 where
  pub plant : Plant
  pub commands : List Command
  pub deck : List (List ℕ)
  pub force : ℕ

-- what a run is of beside the plant: its commands, the names of the deck, and the place of the policy that is in force first
pub record Dispatch : Type 0 where
  pub commands : List Command
  pub deck : List (List ℕ)
  pub force : ℕ

-- what a run is of
abbrev pub input_of : Dispatch → Plant → Input
input_of dispatch plant = record { plant = plant; commands = dispatch.commands; deck = dispatch.deck; force = dispatch.force }

-- the order of a command, which is counted from 1
abbrev pub orders_at : Option Command → List Order
orders_at None = []
orders_at (Some command) = command.what ∷ []

-- the orders that a line tells: that of its command, for a told line
abbrev pub orders_of : List Command → What → List Order
orders_of commands (Told k) = orders_at (slice_get commands (k - 1))
orders_of commands _ = []

-- the orders that were told, the newest first
abbrev pub told : List Command → Front → List Order
told commands [] = []
told commands (line ∷ before) = orders_of commands line.entry.what ++ told commands before

-- the last told close or open of the section is a close
abbrev pub is_closed : ℕ → List Order → Bool
is_closed x [] = false
is_closed x (Close y ∷ before) = (y == x) || is_closed x before
is_closed x (Reopen y ∷ before) = not (y == x) && is_closed x before
is_closed x (_ ∷ before) = is_closed x before

-- the last told stop or go of the train is a stop
abbrev pub is_stopped : ℕ → List Order → Bool
is_stopped t [] = false
is_stopped t (Stop u ∷ before) = (u == t) || is_stopped t before
is_stopped t (Go u ∷ before) = not (u == t) && is_stopped t before
is_stopped t (_ ∷ before) = is_stopped t before

-- a cancel of the train was told
abbrev pub is_cancelled : ℕ → List Order → Bool
is_cancelled t [] = false
is_cancelled t (Cancel u ∷ before) = (u == t) || is_cancelled t before
is_cancelled t (_ ∷ before) = is_cancelled t before

-- the priority last told for the train, or its own
abbrev pub priority_of : ℕ → ℕ → List Order → ℕ
priority_of own t [] = own
priority_of own t (Priority u n ∷ before) = cond (u == t) n (priority_of own t before)
priority_of own t (_ ∷ before) = priority_of own t before

-- the policy in force: the one last told, or the first one
abbrev pub in_force : List ℕ → List Order → List ℕ
in_force first [] = first
in_force first (Policy name ∷ before) = name
in_force first (_ ∷ before) = in_force first before

-- the policy was retired
abbrev pub is_retired : List ℕ → List Order → Bool
is_retired name [] = false
is_retired name (Retire other ∷ before) = same_numbers other name || is_retired name before
is_retired name (_ ∷ before) = is_retired name before

-- the deck has a policy of this name, which wasn't retired
abbrev pub is_in_deck : List (List ℕ) → List ℕ → List Order → Bool
is_in_deck deck name orders = list_any (same_numbers name) deck && not (is_retired name orders)

-- the name of the policy that is in force first
abbrev pub first_force : Input → List ℕ
first_force input = get_or input.deck input.force []

-- an order takes effect: a cancel only where no move of the train is admitted and it isn't cancelled yet, a policy
-- only where the deck has it, a retirement only where the deck has it and it isn't in force
abbrev pub takes_effect : Input → Front → List Order → Order → Bool
takes_effect input front orders (Policy name) = is_in_deck input.deck name orders
takes_effect input front orders (Retire name) = is_in_deck input.deck name orders
    && not (same_numbers name (in_force (first_force input) orders))
takes_effect input front orders (Cancel t) = (length (admissions front t) == 0) && not (is_cancelled t orders)
takes_effect input front orders _ = true
