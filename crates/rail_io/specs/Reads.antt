-- Where the reading of a shelf's files stands.
use Rattle.std.specs.Prelude.{ℕ, ◌+◌, ◌==◌, ◌||◌, true, false, List, drop, Option, Some, None, option_and_then, if◌then◌else◌}
use Rattle.std.specs.Option.{option_map}
use Rattle.rail_io.specs.declared.reading.Reading.{Reading}
use Rattle.rail_io.specs.FaultCounts.{raised}

-- no file was begun, and no call failed
abbrev pub fresh : Reading
fresh = record { name = None; is_begun = false; has_failed = false; moved = 0; has_ended = false; faults = 0 }

-- the name of the begun file
abbrev pub begun_name : Reading → Option (List ℕ)
begun_name reading = if reading.is_begun then reading.name else None

-- the name at which a call failed
abbrev pub failed_name : Reading → Option (List ℕ)
failed_name reading = if reading.has_failed then reading.name else None

-- what is left of the begun file behind the bytes moved, where `told` tells its bytes
abbrev pub bytes_left : (List ℕ → Option (List ℕ)) → Reading → Option (List ℕ)
bytes_left told reading = option_map (λ bytes. drop reading.moved bytes) (option_and_then told (begun_name reading))

-- the file of this name was begun
abbrev pub after_begin : Reading → List ℕ → Reading
after_begin reading name = record reading { name = Some name; is_begun = true; has_failed = false; moved = 0; has_ended = false }

-- the file of this name could not be begun
abbrev pub after_refusal : Reading → List ℕ → Reading
after_refusal reading name =
    record reading { name = Some name; is_begun = false; has_failed = true; moved = 0; faults = raised reading.faults }

-- a read of the begun file failed
abbrev pub after_failure : Reading → Reading
after_failure reading = record reading { has_failed = true; faults = raised reading.faults }

-- a read moved so many bytes; a read of none met the end
abbrev pub after_move : Reading → ℕ → Reading
after_move reading count = record reading { moved = reading.moved + count; has_ended = reading.has_ended || count == 0 }
