-- Bytes that are kept in a room of a fixed size.
use Rattle.std.specs.Prelude.{ℕ, List, take}
use Rattle.rail_io.specs.declared.room.Room.{Room}

-- the bytes that are kept
abbrev pub kept_in : Room → List ℕ
kept_in room = take room.kept room.bytes.items

-- how many bytes there is room for
abbrev pub size_of : Room → ℕ
size_of room = room.size
