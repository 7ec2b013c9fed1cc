-- How often each section is counted.
use Rattle.std.specs.Prelude.{ℕ, ◌+◌, ◌*◌, ◌/◌, ◌%◌, ◌^◌, zero, suc, Bool, cond, List, [], get_or}
use Rattle.std.specs.Int.{bit_at}
use Rattle.rail_sets.specs.declared.counts.TheConstants.{DIGITS}

-- for each 64 sections the digits of their counts in base 2: a word for each digit, the lowest first
abbrev pub Columns : Type 0
Columns = List (List ℕ)

-- the number that the first so many digits of the section at the bit make up
abbrev pub digits_below : List ℕ → ℕ → ℕ → ℕ
digits_below words zero bit = 0
digits_below words (suc n) bit = digits_below words n bit + 2 ^ n * bit_at (get_or words n 0) bit

-- how often the section at the bit is counted
abbrev pub column : List ℕ → ℕ → ℕ
column words bit = digits_below words DIGITS bit

-- how often the section is counted
abbrev pub count_of : Columns → ℕ → ℕ
count_of columns x = column (get_or columns (x / 64) []) (x % 64)

-- 1 where it is so, and 0 where it is not
abbrev pub one_if : Bool → ℕ
one_if is = cond is 1 0
