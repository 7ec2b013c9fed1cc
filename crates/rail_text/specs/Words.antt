-- Words of a line for what may be missing.
use Rattle.std.specs.Prelude.{ℕ, List, codes, decimal, Option, Some, None}
use Rattle.rail_base.specs.Clock.{time_text}

-- a number, or a dash where there is none
abbrev pub number_word : Option ℕ → List ℕ
number_word None = codes "-"
number_word (Some n) = decimal n

-- a time, or a dash where there is none
abbrev pub time_word : Option ℕ → List ℕ
time_word None = codes "-"
time_word (Some at) = time_text at
