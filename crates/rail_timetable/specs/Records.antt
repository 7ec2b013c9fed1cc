-- The records of a file.
use Rattle.std.specs.Prelude.{ℕ, List}
use Rattle.csv.specs.Reading.{default_config, records, strip_bom}

-- the records of a file, each a list of its fields: those of a CSV text as it is read by default, behind a byte order mark
abbrev pub records_in : List ℕ → List (List (List ℕ))
records_in bytes = records default_config (strip_bom bytes)
