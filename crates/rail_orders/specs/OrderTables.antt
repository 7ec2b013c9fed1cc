-- What the commands told so far mean, as tables.
use Rattle.std.specs.Prelude.{◌≡◌, ℕ, ◌<◌, Bool, true, false, not, ◌&&◌, cond, List, [], ◌∷◌, length, get_or, set, map, replicate, find, Option, Some, None}
use Rattle.std.specs.List.{filter, list_any}
use Rattle.std.specs.Option.{option_map}
use Rattle.rail_base.specs.declared.history.Cause.{Cause}
use Rattle.rail_base.specs.declared.history.Cause.TheVariants.{Stopped, Closed}
use Rattle.rail_base.specs.declared.orders.Order.{Order}
use Rattle.rail_base.specs.declared.orders.Order.TheVariants.{Policy, Retire, Close, Reopen, Stop, Go, Cancel, Priority}
use Rattle.rail_base.specs.declared.plant.TrainRow.{TrainRow}
use Rattle.rail_rules.specs.Numbers.{same_numbers}
use Rattle.rail_rules.specs.Plant.{Plant, train, trains}
use Rattle.rail_rules.specs.Orders.{in_force, is_cancelled, is_closed, is_in_deck, is_stopped, priority_of}

-- which sections are closed, which trains are stopped and cancelled, the priority of each train, the names of the
-- policies that are left, for how many names memory was taken, and the name of the policy in force
pub record Told : Type 0 where
  pub closed : List Bool
  pub stopped : List Bool
  pub cancelled : List Bool
  pub priorities : List ℕ
  pub deck : List (List ℕ)
  pub room : ℕ
  pub force : List ℕ

-- the trains' own priorities
abbrev pub first_priorities : Plant → List ℕ
first_priorities plant = map (λ (row : TrainRow). row.priority) plant.tables.trains

-- before any order, with memory for the names of the deck and for no more
abbrev pub first_tables : Plant → List (List ℕ) → ℕ → Told
first_tables plant deck force = record {
  closed = replicate (length plant.tables.sections) false;
  stopped = replicate (trains plant) false;
  cancelled = replicate (trains plant) false;
  priorities = first_priorities plant;
  deck = deck;
  room = length deck;
  force = get_or deck force [];
}

-- the cause that the train is stopped
abbrev pub stop_in : Told → ℕ → Option Cause
stop_in told t = cond (get_or told.stopped t false) (Some Stopped) None

-- the cause that the first closed one of the sections is
abbrev pub closed_in : Told → List ℕ → Option Cause
closed_in told sections = option_map Closed (find (λ x. get_or told.closed x false) sections)

-- a policy of this name is left
abbrev pub has_policy : Told → List ℕ → Bool
has_policy told name = list_any (same_numbers name) told.deck

-- the order takes effect: a cancel only where no move of its train is admitted
abbrev pub takes_effect_in : Told → Bool → Order → Bool
takes_effect_in told has_moved (Policy name) = has_policy told name
takes_effect_in told has_moved (Retire name) = has_policy told name && not (same_numbers name told.force)
takes_effect_in told has_moved (Cancel t) = not has_moved && not (get_or told.cancelled t false)
takes_effect_in told has_moved _ = true

-- the tables after an order is told
abbrev pub told_after : Order → Told → Told
told_after (Close x) told = record told { closed = set told.closed x true }
told_after (Reopen x) told = record told { closed = set told.closed x false }
told_after (Stop t) told = record told { stopped = set told.stopped t true }
told_after (Go t) told = record told { stopped = set told.stopped t false }
told_after (Cancel t) told = record told { cancelled = set told.cancelled t true }
told_after (Priority t n) told = record told { priorities = set told.priorities t n }
told_after (Policy name) told = record told { force = name }
told_after (Retire name) told = record told { deck = filter (λ other. not (same_numbers name other)) told.deck }

-- the tables are those of the orders that were told, the newest first
pub record AreOrders (plant : Plant) (deck : List (List ℕ)) (force : ℕ) (orders : List Order) (told : Told) : Type 0 where
  pub sections : length told.closed ≡ length plant.tables.sections
  pub stops : length told.stopped ≡ trains plant
  pub cancels : length told.cancelled ≡ trains plant
  pub ranks : length told.priorities ≡ trains plant
  pub closed : (x : ℕ) → x < length plant.tables.sections → get_or told.closed x false ≡ is_closed x orders
  pub stopped : (t : ℕ) → t < trains plant → get_or told.stopped t false ≡ is_stopped t orders
  pub cancelled : (t : ℕ) → t < trains plant → get_or told.cancelled t false ≡ is_cancelled t orders
  pub priorities : (t : ℕ) → t < trains plant → get_or told.priorities t 0 ≡ priority_of (train plant t).priority t orders
  pub left : (name : List ℕ) → has_policy told name ≡ is_in_deck deck name orders
  pub in_force : told.force ≡ in_force (get_or deck force []) orders
