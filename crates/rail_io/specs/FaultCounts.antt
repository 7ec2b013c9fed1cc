-- Counts of faults.
use Rattle.std.specs.Prelude.{◌≢◌, ℕ, ◌+◌, ◌-◌, ◌^◌, ◌<◌, min}

-- a count rose: it is greater than before, or stands at the last value of a 64-bit counter
abbrev pub Rose : ℕ → ℕ → Type 0
Rose before now = now ≢ 2 ^ 64 - 1 → before < now

-- a count one higher, which stands still at the last value of a 64-bit counter
abbrev pub raised : ℕ → ℕ
raised count = min (count + 1) (2 ^ 64 - 1)
