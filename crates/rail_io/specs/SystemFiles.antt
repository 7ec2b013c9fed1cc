-- The files of the system, and standard output.
use Rattle.std.specs.Prelude.{ℕ}
use Rattle.rail_io.specs.declared.files.FileShelf.{FileShelf}
use Rattle.rail_io.specs.declared.files.OutSink.{OutSink}
use Rattle.rail_io.specs.declared.reading.Reading.{Reading}

-- where the reading of the shelf's files stands
abbrev pub reading_of : {R A F : Type 0} → FileShelf R A F → Reading
reading_of shelf = shelf.reading

-- how many calls of the sink failed
abbrev pub faults_of : {R : Type 0} → OutSink R → ℕ
faults_of sink = sink.faults
