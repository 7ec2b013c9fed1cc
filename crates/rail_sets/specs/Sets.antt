-- Sets of sections as words of 64 bits.
use Rattle.std.specs.Prelude.{ℕ, ◌/◌, ◌%◌, ◌==◌, Bool, List, get_or}
use Rattle.std.specs.Int.{bit_at}

-- the set has the section
abbrev pub has : List ℕ → ℕ → Bool
has set x = bit_at (get_or set (x / 64) 0) (x % 64) == 1
