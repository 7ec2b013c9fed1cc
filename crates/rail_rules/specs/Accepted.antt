-- Plants and inputs that may be run.
use Rattle.std.specs.Prelude.{ℕ, suc, ◌-◌, ◌==◌, Bool, true, not, ◌&&◌, ◌||◌, nat_lt, nat_le, is_some, List, [], ◌∷◌, ◌++◌, length, map, sum_by, Option, Some, None}
use Rattle.std.specs.List.{list_all}
use Rattle.rail_base.specs.NameForms.{is_name}
use Rattle.rail_base.specs.Lists.{are_distinct}
use Rattle.rail_base.specs.Limits.{is_from_one, most, Sections, Trains, RouteSections, OverlapSections, ItineraryRoutes, Commands, Policies, Depth, InputTime, SectionLength, TrainLength, Speed, SettingTime, WatchingTime, ApproachTime, TurnTime, ReleaseTime, OverlapTime, StartSupplement, StopSupplement}
use Rattle.rail_base.specs.declared.plant.SectionRow.{SectionRow}
use Rattle.rail_base.specs.declared.plant.TrainRow.{TrainRow}
use Rattle.rail_base.specs.declared.plant.TrainKind.{TrainKind}
use Rattle.rail_base.specs.declared.plant.MoveRow.{MoveRow}
use Rattle.rail_base.specs.declared.plant.TurnRow.{TurnRow}
use Rattle.rail_base.specs.declared.plant.Call.{Call}
use Rattle.rail_base.specs.declared.orders.Command.{Command}
use Rattle.rail_base.specs.declared.orders.Order.{Order}
use Rattle.rail_base.specs.declared.orders.Order.TheVariants.{Policy, Retire, Close, Reopen, Stop, Go, Cancel, Priority}
use Rattle.rail_rules.specs.Numbers.{all_below, same_numbers}
use Rattle.rail_rules.specs.Moves.{is_valid}
use Rattle.rail_rules.specs.Plant.{Plant, section, trains, train, moves, move_row, overlap, moves_of, call_after}
use Rattle.rail_rules.specs.Orders.{Input}

-- no number stands twice
abbrev pub are_distinct_numbers : List ℕ → Bool
are_distinct_numbers = are_distinct (λ x y. y == x)

-- no name stands twice
abbrev pub are_distinct_names : List (List ℕ) → Bool
are_distinct_names = are_distinct same_numbers

-- a section within the ranges
abbrev pub is_section_in_range : SectionRow → Bool
is_section_in_range row = is_name row.name && is_from_one (most SectionLength) row.length && is_from_one (most Speed) row.speed

-- a train kind within the ranges
abbrev pub is_kind_in_range : TrainKind → Bool
is_kind_in_range kind = is_from_one (most TrainLength) kind.length && is_from_one (most Speed) kind.speed
    && nat_le kind.start (most StartSupplement) && nat_le kind.stop (most StopSupplement)

-- a turn at a step of the move, within the ranges
abbrev pub is_turn_in_range : ℕ → Option TurnRow → Bool
is_turn_in_range steps None = true
is_turn_in_range steps (Some turn) = is_from_one steps turn.step && nat_le turn.time (most TurnTime)

-- a move over known sections, none of them twice in its path and overlap together, within the ranges
abbrev pub is_move_in_range : ℕ → MoveRow → Bool
is_move_in_range sections row = is_from_one (most RouteSections) (length row.sections)
    && nat_le (length row.overlap) (most OverlapSections)
    && list_all (λ x. nat_lt x sections) (row.sections ++ row.overlap) && are_distinct_numbers (row.sections ++ row.overlap)
    && is_from_one (most SettingTime) row.setting && nat_le row.watching (most WatchingTime) && nat_le row.approach (most ApproachTime)
    && is_turn_in_range (length row.sections) row.turn

-- a train within the ranges, without a turn and an overlap after its last move
abbrev pub is_train_in_range : Plant → ℕ → Bool
is_train_in_range plant t = is_name (train plant t).name && is_kind_in_range (train plant t).kind
    && nat_le (train plant t).entry (most InputTime) && nat_le (train plant t).priority 255
    && is_from_one (most ItineraryRoutes) (moves plant t) && list_all (is_move_in_range (length plant.tables.sections)) (train plant t).moves
    && not (is_some (move_row plant t (moves plant t - 1)).turn) && (length (overlap plant t (moves plant t - 1)) == 0)

-- the train is no longer than the sections of each of its routes before the last one
abbrev pub does_fit : Plant → ℕ → Bool
does_fit plant t = all_below
    (λ m. nat_le (train plant t).kind.length (sum_by (λ x. (section plant x).length) (move_row plant t m).sections))
    (moves plant t - 1)

-- a time of an input, where there is one, within the limit
abbrev pub is_time_in_range : Option ℕ → Bool
is_time_in_range None = true
is_time_in_range (Some time) = nat_le time (most InputTime)

-- a call at the end of a move: within the ranges; a call that is no stop has no dwell; at the last
-- place it is no stop and has no departure; at a place with a turn it is a stop
abbrev pub is_call_in_range : Bool → Bool → Option Call → Bool
is_call_in_range last turns None = true
is_call_in_range last turns (Some call) = is_time_in_range call.arrival && is_time_in_range call.departure
    && nat_le call.dwell (most InputTime) && (call.stops || (call.dwell == 0))
    && not (last && (call.stops || is_some call.departure)) && not (turns && not call.stops)

-- the calls of a train
abbrev pub are_calls_in_range : Plant → ℕ → Bool
are_calls_in_range plant t = all_below
    (λ m. is_call_in_range (suc m == moves plant t) (is_some (move_row plant t m).turn) (call_after plant t m))
    (moves plant t)

-- a plant that may be run: within the limits and ranges, with distinct names; each train fits its
-- routes, and no train would stand on a section that its next move claims
abbrev pub is_accepted : Plant → Bool
is_accepted plant = nat_le (length plant.tables.sections) (most Sections) && nat_le (trains plant) (most Trains)
    && nat_le plant.tables.release (most ReleaseTime) && nat_le plant.tables.overlap_time (most OverlapTime) && nat_le plant.tables.depth (most Depth)
    && list_all is_section_in_range plant.tables.sections
    && are_distinct_names (map (λ (row : SectionRow). row.name) plant.tables.sections)
    && are_distinct_names (map (λ (row : TrainRow). row.name) plant.tables.trains)
    && all_below (is_train_in_range plant) (trains plant)
    && all_below (does_fit plant) (trains plant)
    && all_below (are_calls_in_range plant) (trains plant)
    && is_valid (moves_of plant)

-- an order that names trains and sections of the plant
abbrev pub is_order_in_range : Plant → Order → Bool
is_order_in_range plant (Policy name) = is_name name
is_order_in_range plant (Retire name) = is_name name
is_order_in_range plant (Close x) = nat_lt x (length plant.tables.sections)
is_order_in_range plant (Reopen x) = nat_lt x (length plant.tables.sections)
is_order_in_range plant (Stop t) = nat_lt t (trains plant)
is_order_in_range plant (Go t) = nat_lt t (trains plant)
is_order_in_range plant (Cancel t) = nat_lt t (trains plant)
is_order_in_range plant (Priority t n) = nat_lt t (trains plant) && nat_le n 255

-- commands for the plant in order of time, none of them before the given time
abbrev pub are_commands_in_range : Plant → ℕ → List Command → Bool
are_commands_in_range plant earliest [] = true
are_commands_in_range plant earliest (command ∷ commands) = nat_le earliest command.at && nat_le command.at (most InputTime)
    && is_order_in_range plant command.what
    && are_commands_in_range plant command.at commands

-- an input that may be run: an accepted plant, commands for it, and a deck of policies with distinct names, one of which is in force first
abbrev pub is_accepted_input : Input → Bool
is_accepted_input input = is_accepted input.plant && nat_le (length input.commands) (most Commands)
    && are_commands_in_range input.plant 0 input.commands
    && is_from_one (most Policies) (length input.deck) && are_distinct_names input.deck && nat_lt input.force (length input.deck)
