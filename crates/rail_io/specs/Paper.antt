-- Bytes that are written to a room of a fixed size.
use Rattle.std.specs.Prelude.{ℕ, ◌+◌, List, ◌++◌, length, Option, Some, None, if◌then◌else◌, nat_le}
use Rattle.rail_io.specs.declared.paper.Paper.{Paper}

-- the bytes written, until the first piece that the room did not hold
abbrev pub told : Paper → Option (List ℕ)
told paper = if paper.is_full then None else Some paper.bytes.items

-- how many bytes there is room for in all
abbrev pub room_of : Paper → ℕ
room_of paper = paper.room

-- the bytes told after a piece was taken: those before and the piece, until the first piece that the room does not hold; from then on none
abbrev pub told_after : ℕ → Option (List ℕ) → List ℕ → Option (List ℕ)
told_after room None piece = None
told_after room (Some bytes) piece = if nat_le (length bytes + length piece) room then Some (bytes ++ piece) else None
