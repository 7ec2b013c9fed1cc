-- Times in files that are read line by line: which time a word spells.
use Rattle.std.specs.Prelude.{ℕ, ◌+◌, ◌*◌, ◌/◌, ◌%◌, ◌≤◌, ◌++◌, ◌&&◌, cond, nat_le, List, filter, codes, Option, Some, None, MatchOption}
use Rattle.rail_base.specs.Clock.{IsLenientTime, time_text}
use Rattle.rail_base.specs.Limits.{most, InputTime}
use Rattle.rail_rules.specs.Numbers.{or_else, same_numbers}
use Rattle.rail_text.specs.Decimals.{is_digit, value_of}

-- the time whose text has the digits of this number: hours, two of minutes, two of seconds, one of tenths
abbrev pub clock_time : ℕ → ℕ
clock_time digits = digits / 100_000 * 36_000 + digits / 1_000 % 100 * 600 + digits % 1_000

-- the time of an input, where the text is that time's canonical one
abbrev pub canonical_time : List ℕ → Option ℕ
canonical_time text =
    let time = clock_time (value_of (filter is_digit text)) in
    cond (nat_le time (most InputTime) && same_numbers (time_text time) text) (Some time) None

-- the time of an input that a word spells, in the canonical form or in the same without tenths that are 0
abbrev pub input_time : List ℕ → Option ℕ
input_time word = or_else (canonical_time word) (canonical_time (word ++ codes ".0"))

-- the answer is the time of a word as inputs may spell it, up to the limit of inputs
abbrev pub IsInputTime : List ℕ → Option ℕ → Type 0
IsInputTime word answer = MatchOption answer
    ((time : ℕ) → time ≤ most InputTime → IsLenientTime word time → ⊥)
    (λ time. (time ≤ most InputTime) × IsLenientTime word time)
