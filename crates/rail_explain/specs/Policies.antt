-- Commands that name a policy which the program does not have.
use Rattle.std.specs.Prelude.{ℕ, List, ◌∷◌, ◌++◌, Some, codes, decimal}
use Rattle.rail_explain.specs.Explanations.{file_text}
use Rattle.rail_explain.specs.Terminals.{shown_text}

-- the name, and what follows from it
abbrev pub named_text : List ℕ → List ℕ
named_text name = shown_text name ++ codes ", so the command changed nothing; the policies are priority, timetable, fcfs and rotating\n"

-- the line for the command on the line of this number
abbrev pub unknown_line : List ℕ → ℕ → List ℕ → List ℕ
unknown_line file number name =
    file_text (Some file) ++ (((codes "line" ++ 32 ∷ decimal number) ++ codes ": no policy is named ") ++ named_text name)
