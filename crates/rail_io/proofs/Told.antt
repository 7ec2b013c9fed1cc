-- What a sink in memory tells.
use Rattle.std.proofs.Common.{◌≡◌, ℕ, ◌+◌, ◌≤◌, Bool, true, false, List, ◌++◌, length, arith}
use Rattle.std.specs.Prelude.{Some, None, if◌then◌else◌}
use Rattle.std.proofs.lemmas.Bool.Decides.{nat_tests}
use Rattle.rail_io.specs.Paper.{told_after}

fitting : (room : ℕ) (bytes piece : List ℕ) → length bytes + length piece ≤ room → Some (bytes ++ piece) ≡ told_after room (Some bytes) piece
fitting room bytes piece fits = grind (arith, nat_tests)

-- a piece that fits the room is told behind the bytes before it
pub told_put : (is_full : Bool) (room : ℕ) (bytes piece after : List ℕ) → is_full ≡ false → length bytes + length piece ≤ room → after ≡ bytes ++ piece → (if is_full then None else Some after) ≡ told_after room (if is_full then None else Some bytes) piece
told_put true room bytes piece after kept fits same = cc
told_put false room bytes piece after kept fits same = rw same (fitting room bytes piece fits)
