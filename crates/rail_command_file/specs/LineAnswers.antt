-- What the reading of a line answers.
use Rattle.std.specs.Prelude.{◌≡◌, List, [], ◌∷◌, ◌++◌, length, None}
use Rattle.rail_base.specs.FirstRefusals.{Test, first_failing}
use Rattle.rail_base.specs.Refusals.{AnswersFirst}
use Rattle.rail_base.specs.declared.names.Names.{Names}
use Rattle.rail_base.specs.declared.orders.Command.{Command}
use Rattle.rail_base.specs.declared.refusals.Fault.{Fault}
use Rattle.rail_base.specs.declared.refusals.Refusal.{Refusal}
use Rattle.rail_text.specs.Lines.{Line}
use Rattle.rail_command_file.specs.Commands.{commands_on, last_time, line_tests, lines_tests}

-- the tests of a line behind these commands
abbrev pub tests_behind : Names → List Command → Line → List (Test Refusal)
tests_behind names before line = line_tests names.sections.keys names.trains.keys (length before) (last_time before) line

-- the tests of lines behind these commands
abbrev pub lines_behind : Names → List Command → List Line → List (Test Refusal)
lines_behind names before lines = lines_tests names.sections.keys names.trains.keys (length before) (last_time before) lines

-- a line behind these commands passes its tests
abbrev pub LinePasses : Names → List Command → Line → Type 0
LinePasses names before line = first_failing (tests_behind names before line) ≡ None

-- a line behind these commands is refused so
abbrev pub IsRefusedLine : Names → List Command → Line → Fault → Type 0
IsRefusedLine names before line fault = AnswersFirst (first_failing (tests_behind names before line)) fault

-- these commands, and behind them that of the line
abbrev pub with_line : Names → List Command → Line → List Command
with_line names before line = before ++ commands_on names.sections.keys names.trains.keys (line ∷ [])
