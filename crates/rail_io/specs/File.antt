-- Files that are kept in memory.
use Rattle.std.specs.Prelude.{ℕ, List, [], Option, find, unwrap_or}
use Rattle.std.specs.Option.{option_map}
use Rattle.std.specs.Str.{bytes_eq}
use Rattle.rail_io.specs.declared.kept_file.File.{File}

-- the bytes of the first file of this name, where one is held
abbrev pub bytes_named : List File → List ℕ → Option (List ℕ)
bytes_named files name = option_map (λ (file : File). file.bytes) (find (λ (file : File). bytes_eq file.name name) files)

-- the bytes of the first file of this name; a file that is not held is empty
abbrev pub bytes_or_empty : List File → List ℕ → List ℕ
bytes_or_empty files name = unwrap_or (bytes_named files name) []
