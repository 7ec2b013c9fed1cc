-- What a run is of, as the definitions have it.
use Rattle.rail_rules.specs.Orders.{Dispatch, Input, input_of}
use Rattle.rail_ledger.specs.declared.input.RunInput.{RunInput}

-- the commands, the names of the deck, and the place of the policy that is in force first
abbrev pub dispatch_in : RunInput → Dispatch
dispatch_in input = record { commands = input.commands.items; deck = input.deck.items; force = input.force }

-- all that a run is of
abbrev pub input_in : RunInput → Input
input_in input = input_of (dispatch_in input) input.plant
