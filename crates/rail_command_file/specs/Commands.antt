-- Command files: the commands that they spell, and why they are refused.
use Rattle.std.specs.Prelude.{ℕ, suc, fold, not, nat_lt, nat_le, is_some, List, [], ◌∷◌, ◌++◌, Option, option_and_then}
use Rattle.std.specs.Option.{option_map, option_map_or}
use Rattle.std.specs.List.{filter_map}
use Rattle.rail_base.specs.FirstRefusals.{Test, first_failing}
use Rattle.rail_base.specs.Limits.{most, Commands}
use Rattle.rail_base.specs.declared.orders.Command.{Command}
use Rattle.rail_base.specs.declared.orders.Order.{Order}
use Rattle.rail_base.specs.declared.refusals.Refusal.{Refusal}
use Rattle.rail_base.specs.declared.refusals.Reason.TheVariants.{TooMany, CommandForm, CommandName, CommandOrder}
use Rattle.rail_command_file.specs.declared.orders.NamedCommand.{NamedCommand}
use Rattle.rail_text.specs.Lines.{Line, lines_of, refused_line}
use Rattle.rail_command_file.specs.Orders.{named_command, order_of}

-- the command, where what it names is known
abbrev pub known_command : List (List ℕ) → List (List ℕ) → NamedCommand → Option Command
known_command sections trains command =
    option_map (λ (what : Order). record { at = command.at; what = what }) (order_of sections trains command.what)

-- the command of a line
abbrev pub command_on : List (List ℕ) → List (List ℕ) → Line → Option Command
command_on sections trains line = option_and_then (known_command sections trains) (named_command line.words)

-- the commands of lines
abbrev pub commands_on : List (List ℕ) → List (List ℕ) → List Line → List Command
commands_on sections trains lines = filter_map (command_on sections trains) lines

-- the commands that a file spells, for sections and trains of these names
abbrev pub commands_in : List (List ℕ) → List (List ℕ) → List ℕ → List Command
commands_in sections trains bytes = commands_on sections trains (lines_of bytes)

-- the time on a line
abbrev pub time_on : Line → ℕ
time_on line = option_map_or (λ (command : NamedCommand). command.at) (named_command line.words) 0

-- the time of the last command, 0 where there is none
abbrev pub last_time : List Command → ℕ
last_time commands = fold (λ _ (command : Command). command.at) 0 commands

-- the tests of a line, in their order; so many commands stand before it, the last one at this time
abbrev pub line_tests : List (List ℕ) → List (List ℕ) → ℕ → ℕ → Line → List (Test Refusal)
line_tests sections trains before earliest line =
    refused_line TooMany line.number (nat_le (most Commands) before)
    ∷ refused_line CommandForm line.number (not (is_some (named_command line.words)))
    ∷ refused_line CommandName line.number (not (is_some (command_on sections trains line)))
    ∷ refused_line CommandOrder line.number (nat_lt (time_on line) earliest)
    ∷ []

-- the tests of lines
abbrev pub lines_tests : List (List ℕ) → List (List ℕ) → ℕ → ℕ → List Line → List (Test Refusal)
lines_tests sections trains before earliest [] = []
lines_tests sections trains before earliest (line ∷ lines) =
    line_tests sections trains before earliest line ++ lines_tests sections trains (suc before) (time_on line) lines

-- why a command file is refused, if it is
abbrev pub commands_refusal : List (List ℕ) → List (List ℕ) → List ℕ → Option Refusal
commands_refusal sections trains bytes = first_failing (lines_tests sections trains 0 0 (lines_of bytes))
