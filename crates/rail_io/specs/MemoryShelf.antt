-- A shelf over files in memory, on which planned calls fail.
use Rattle.std.specs.Prelude.{ℕ, List, Option, Contains}
use Rattle.rail_io.specs.declared.memory.MemoryShelf.{MemoryShelf}
use Rattle.rail_io.specs.declared.kept_files.KeptFiles.{KeptFiles}
use Rattle.rail_io.specs.declared.reading.Reading.{Reading}
use Rattle.rail_io.specs.FaultCounts.{raised}
use Rattle.rail_io.specs.File.{bytes_named}
use Rattle.rail_io.specs.KeptFiles.{files_on}
use Rattle.rail_io.specs.Reads.{bytes_left}

-- the files that it holds, and where the reading of them stands
abbrev pub kept_of : MemoryShelf → KeptFiles
kept_of shelf = shelf.kept

-- where the reading of its files stands
abbrev pub reading_of : MemoryShelf → Reading
reading_of shelf = (kept_of shelf).reading

-- what is left of the begun file
abbrev pub left_on : MemoryShelf → Option (List ℕ)
left_on shelf = bytes_left (bytes_named (files_on (kept_of shelf))) (reading_of shelf)

-- the numbers of the calls that are to fail, counted from 1
abbrev pub failing_calls : MemoryShelf → List ℕ
failing_calls shelf = shelf.plan.fails.items

-- how many calls were made
abbrev pub calls_made : MemoryShelf → ℕ
calls_made shelf = shelf.plan.calls

-- the next call is one of those that are to fail
abbrev pub IsPlannedToFail : MemoryShelf → Type 0
IsPlannedToFail shelf = Contains (failing_calls shelf) (raised (calls_made shelf))

-- the shelf after one more call, with the reading where it stands then
abbrev pub with_reading : MemoryShelf → Reading → MemoryShelf
with_reading shelf reading =
    record shelf { plan = record shelf.plan { calls = raised shelf.plan.calls }; kept = record shelf.kept { reading = reading } }
