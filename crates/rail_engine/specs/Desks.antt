-- The desk of a run: what a told order does to it, and which desk belongs to a front.
use Rattle.std.specs.Prelude.{◌≡◌, ◌≢◌, ℕ, ◌==◌, ◌<◌, cond, List, ◌∷◌, length}
use Rattle.std.specs.List.{All, AllPairs, filter}
use Rattle.std.specs.Option.{option_map_or}
use Rattle.rail_base.specs.declared.orders.Order.{Order}
use Rattle.rail_base.specs.declared.orders.Order.TheVariants.{Policy, Retire}
use Rattle.rail_base.specs.declared.orders.PolicyKind.TheVariants.{Rotating}
use Rattle.rail_rules.specs.Fronts.{Front}
use Rattle.rail_rules.specs.Orders.{Input, is_in_deck, told}
use Rattle.rail_rules.specs.RunHistories.{Seat, force_of, mark_of, seat_of}
use Rattle.rail_policy.specs.Desks.{Table, put_in_force, seat_in_force, without}
use Rattle.rail_policy.specs.Seats.{DeskSeat, index_of, names_of}

-- the policy of this name is put in force, where the desk has one
abbrev pub exchanged : Table → List ℕ → Table
exchanged table name = option_map_or (put_in_force table) (index_of table.seats name) table

-- the policy of this name is dropped, where the desk has one that isn't in force
abbrev pub retired : Table → List ℕ → Table
retired table name = option_map_or (λ index. cond (index == table.force) table (without table index)) (index_of table.seats name) table

-- the desk after the orders that a line tells, of which there is one at most
abbrev pub after_orders : List Order → Table → Table
after_orders (Policy name ∷ orders) table = exchanged table name
after_orders (Retire name ∷ orders) table = retired table name
after_orders _ table = table

-- the policy has the kind of the one of its name that was handed in, and a rotating one has the mark of the front
pub record IsBox (input : Input) (seats : List Seat) (front : Front) (seat : DeskSeat) : Type 0 where
  pub kind : seat.kind ≡ (seat_of seats seat.name).kind
  pub mark : seat.kind ≡ Rotating → seat.mark ≡ mark_of input seats seat.name front

-- the desk belongs to the front: its policies are those of the deck, in its order, without the retired ones and no others,
-- and the policy in force is the one of the front
pub record IsDesk (input : Input) (seats : List Seat) (front : Front) (table : Table) : Type 0 where
  pub in_range : table.force < length table.seats
  pub in_force : (seat_in_force table).name ≡ force_of input front
  pub distinct : AllPairs (λ (first second : DeskSeat). first.name ≢ second.name) table.seats
  pub boxes : All (IsBox input seats front) table.seats
  pub names : names_of table.seats ≡ filter (λ name. is_in_deck input.deck name (told input.commands front)) input.deck
