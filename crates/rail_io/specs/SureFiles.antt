-- A shelf and a sink in memory that never fail.
use Rattle.rail_io.specs.declared.sure_files.SureShelf.{SureShelf}
use Rattle.rail_io.specs.declared.sure_files.SureSink.{SureSink}
use Rattle.rail_io.specs.declared.kept_files.KeptFiles.{KeptFiles}
use Rattle.rail_io.specs.declared.paper.Paper.{Paper}
use Rattle.rail_io.specs.declared.reading.Reading.{Reading}

-- the files that the shelf holds, and where the reading of them stands
abbrev pub kept_of : SureShelf → KeptFiles
kept_of shelf = shelf.kept

-- where the reading of the shelf's files stands
abbrev pub reading_of : SureShelf → Reading
reading_of shelf = (kept_of shelf).reading

-- the bytes that are written to the sink, and their room
abbrev pub paper_of : SureSink → Paper
paper_of sink = sink.paper
