-- A sink in memory, on which planned calls fail.
use Rattle.std.specs.Prelude.{ℕ, List, Contains}
use Rattle.rail_io.specs.declared.memory.MemorySink.{MemorySink}
use Rattle.rail_io.specs.declared.paper.Paper.{Paper}
use Rattle.rail_io.specs.FaultCounts.{raised}

-- the bytes that are written, and their room
abbrev pub paper_of : MemorySink → Paper
paper_of sink = sink.paper

-- how many calls failed
abbrev pub faults_of : MemorySink → ℕ
faults_of sink = sink.faults

-- the numbers of the calls that are to fail, counted from 1
abbrev pub failing_writes : MemorySink → List ℕ
failing_writes sink = sink.plan.fails.items

-- how many calls were made
abbrev pub writes_made : MemorySink → ℕ
writes_made sink = sink.plan.calls

-- the next call is one of those that are to fail
abbrev pub IsPlannedToFail : MemorySink → Type 0
IsPlannedToFail sink = Contains (failing_writes sink) (raised (writes_made sink))
