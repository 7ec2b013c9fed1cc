-- A sink that gathers bytes before it hands them on.
use Rattle.std.specs.Prelude.{ℕ, ◌+◌, ◌≤◌, List, length, Option}
use Rattle.std.specs.Io.KnownBytes.{append_known}
use Rattle.rail_io.specs.declared.gathered_sink.GatheredSink.{GatheredSink}
use Rattle.rail_io.specs.Room.{kept_in, size_of}

-- the sink to which the bytes are handed on
abbrev pub behind_of : {S : Type 0} → GatheredSink S → S
behind_of sink = sink.behind

-- the bytes that were taken and are not handed on yet
abbrev pub gathered_by : {S : Type 0} → GatheredSink S → List ℕ
gathered_by sink = kept_in sink.room

-- how many bytes are gathered at most
abbrev pub room_of : {S : Type 0} → GatheredSink S → ℕ
room_of sink = size_of sink.room

-- behind what is gathered there is room for the piece
abbrev pub HasRoomFor : {S : Type 0} → GatheredSink S → List ℕ → Type 0
HasRoomFor sink piece = length (gathered_by sink) + length piece ≤ room_of sink

-- the bytes that the sink behind it tells, and then those that are gathered
abbrev pub told_by : {S : Type 0} → (S → Option (List ℕ)) → GatheredSink S → Option (List ℕ)
told_by told sink = append_known (told (behind_of sink)) (gathered_by sink)
