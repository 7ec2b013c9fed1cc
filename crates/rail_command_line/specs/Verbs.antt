-- What the first word of a line asks for.
use Rattle.std.specs.Prelude.{ℕ, cond, List}
use Rattle.rail_command_line.specs.declared.checking.ListVerb.{ListVerb}
use Rattle.rail_command_line.specs.declared.checking.ListVerb.TheVariants.{At, Move, Other}
use Rattle.rail_command_line.specs.Lists.{sets, moves_trains}

-- a position, moves, or something else
abbrev pub verb_of : List ℕ → ListVerb
verb_of verb = cond (sets verb) At (cond (moves_trains verb) Move Other)
