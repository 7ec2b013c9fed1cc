-- The line that explains a refusal.
use Rattle.std.specs.Prelude.{ℕ, List, [], ◌∷◌, ◌++◌, Option, Some, None, codes}
use Rattle.rail_base.specs.declared.refusals.Refusal.{Refusal}
use Rattle.rail_explain.specs.Meanings.{meaning_text}
use Rattle.rail_explain.specs.Places.{item_text, key_at, place_text}
use Rattle.rail_explain.specs.Terminals.{shown_text}

-- the explanation of a refusal, whose item may have a name: the item, where in it the refusal lies, and what was expected there
abbrev pub explanation : Refusal → Option (List ℕ) → List ℕ
explanation refusal name =
    item_text refusal name ++ place_text refusal.reason refusal ++ meaning_text refusal.reason (key_at refusal) refusal

-- the name of the file in which a refusal lies, as it is shown on a terminal, with a colon and a space; a refusal of a word lies in none
abbrev pub file_text : Option (List ℕ) → List ℕ
file_text None = []
file_text (Some file) = shown_text file ++ 58 ∷ 32 ∷ []

-- the line of a refusal: the file in which it lies, its explanation, and a detail of what the file reads there
abbrev pub refusal_line : Option (List ℕ) → Refusal → Option (List ℕ) → List ℕ → List ℕ
refusal_line file refusal name detail = file_text file ++ (explanation refusal name ++ (detail ++ 10 ∷ []))

-- the line of a file that could not be read
abbrev pub read_fault_line : List ℕ → List ℕ
read_fault_line file = file_text (Some file) ++ codes "the file is not there, or could not be read\n"
