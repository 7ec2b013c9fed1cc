-- Files in memory that are read one after the other.
use Rattle.std.specs.Prelude.{ℕ, List, [], drop, Option, Some, option_and_then, unwrap_or}
use Rattle.rail_io.specs.declared.kept_file.File.{File}
use Rattle.rail_io.specs.declared.kept_files.KeptFiles.{KeptFiles}
use Rattle.rail_io.specs.File.{bytes_named, bytes_or_empty}
use Rattle.rail_io.specs.Reads.{after_begin, after_move, bytes_left}

-- the files that are held
abbrev pub files_on : KeptFiles → List File
files_on kept = kept.files.items

-- the bytes of each name; a file that is not held is empty
abbrev pub told_on : KeptFiles → List ℕ → Option (List ℕ)
told_on kept name = Some (bytes_or_empty (files_on kept) name)

-- what is left of the begun file
abbrev pub left_on : KeptFiles → Option (List ℕ)
left_on kept = bytes_left (told_on kept) kept.reading

-- the bytes of the begun file behind those that were moved; a file that is not held is empty
abbrev pub unread : KeptFiles → List ℕ
unread kept = drop kept.reading.moved (unwrap_or (option_and_then (bytes_named (files_on kept)) kept.reading.name) [])

-- the files after the one of this name was begun
abbrev pub after_start : KeptFiles → List ℕ → KeptFiles
after_start kept name = record kept { reading = after_begin kept.reading name }

-- the files after a read of so many bytes
abbrev pub after_read : KeptFiles → ℕ → KeptFiles
after_read kept count = record kept { reading = after_move kept.reading count }
