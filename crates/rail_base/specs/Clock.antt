-- Time as text.
use Rattle.std.specs.Prelude.{◌≡◌, ℕ, ◌+◌, ◌/◌, ◌%◌, ◌<◌, List, [], ◌∷◌, ◌++◌, ◌⊎◌, cond, nat_lt, codes, decimal}

-- a number below 100 with two digits
abbrev pub two_digits : ℕ → List ℕ
two_digits n = (48 + n / 10) ∷ (48 + n % 10) ∷ []

-- hours have at least two digits, and no further leading zero
abbrev pub hours_text : ℕ → List ℕ
hours_text hours = cond (nat_lt hours 10) (48 ∷ decimal hours) (decimal hours)

-- the canonical form `H:MM:SS.T` of a time in tenths of a second
abbrev pub time_text : ℕ → List ℕ
time_text time = hours_text (time / 36000) ++ 58 ∷ two_digits (time / 600 % 60) ++ 58 ∷ two_digits (time / 10 % 60)
    ++ 46 ∷ (48 + time % 10) ∷ []

-- the form `H:MM:SS` of a time in whole seconds
abbrev pub seconds_text : ℕ → List ℕ
seconds_text seconds = hours_text (seconds / 3600) ++ 58 ∷ two_digits (seconds / 60 % 60) ++ 58 ∷ two_digits (seconds % 60)

-- the text is a time as inputs may spell it: the canonical form, or the same without its tenths where
-- they are 0, with at most twelve digits of hours
pub record IsLenientTime (text : List ℕ) (time : ℕ) : Type 0 where
  pub short : time < 36_000_000_000_000_000
  pub spelled : (text ≡ time_text time) ⊎ (text ++ codes ".0" ≡ time_text time)
