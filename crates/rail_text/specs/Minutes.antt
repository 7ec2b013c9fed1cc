-- The text of a time as that of its minute and what follows it.
use Rattle.std.specs.Prelude.{◌≡◌, ℕ, ◌+◌, ◌/◌, ◌%◌, ◌<◌, ◌≤◌, List, [], ◌∷◌, ◌++◌, take}
use Rattle.rail_base.specs.Clock.{hours_text, two_digits}

-- the text `H:MM:` of a minute, counted from 0
abbrev pub minute_text : ℕ → List ℕ
minute_text minute = hours_text (minute / 60) ++ 58 ∷ two_digits (minute % 60) ++ 58 ∷ []

-- the text `SS.T` of so many tenths of a second after the minute
abbrev pub tenths_text : ℕ → List ℕ
tenths_text tenths = two_digits (tenths / 10) ++ 46 ∷ (48 + tenths % 10) ∷ []

-- of the bytes of a line, so many at the front are the text of the minute, where it is more than none
pub record IsKept (bytes : List ℕ) (len kept minute : ℕ) : Type 0 where
  pub within : kept ≤ len
  pub short : kept ≤ 28
  pub text : 0 < kept → take kept bytes ≡ minute_text minute
