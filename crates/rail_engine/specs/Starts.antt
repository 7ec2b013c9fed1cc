-- What a run is of that begins with a desk.
use Rattle.std.specs.Prelude.{List}
use Rattle.rail_base.specs.declared.orders.Command.{Command}
use Rattle.rail_rules.specs.Orders.{Input}
use Rattle.rail_rules.specs.Plant.{Plant}
use Rattle.rail_policy.specs.Desks.{Table}
use Rattle.rail_policy.specs.Seats.{names_of}

-- the plant and the commands, with the policies of the desk and the one of them that is in force
abbrev pub run_input : Plant → List Command → Table → Input
run_input plant commands table = record { plant = plant; commands = commands; deck = names_of table.seats; force = table.force }
