-- The files of a command: their roles, and what words name them.
use denote.Enum.Bare.{sameb}
use Rattle.std.specs.Prelude.{◌≡◌, ◌-◌, ◌++◌, ℕ, Bool, cond, length, map, replicate, find, List, codes, option_and_then, Option, Some, None}
use Rattle.std.specs.Option.{option_copied}
use Rattle.std.specs.Str.{bytes_eq}
use Rattle.rail_base.specs.Limits.{most, FileBytes, HistoryBytes}
use Rattle.rail_command_line.specs.contracts.files.FileRole.{the_type}
use Rattle.rail_command_line.specs.declared.files.FileRole.{FileRole}
use Rattle.rail_command_line.specs.declared.files.FileRole.TheVariants as role
use Rattle.rail_command_line.specs.declared.files.RequestFiles.{RequestFiles}

-- how many bytes a file of the role may have
abbrev pub most_bytes : FileRole → ℕ
most_bytes role.Scene = most FileBytes
most_bytes role.Timetable = most FileBytes
most_bytes role.Commands = most FileBytes
most_bytes role.History = most HistoryBytes
most_bytes role.List = most FileBytes
most_bytes role.Edits = most FileBytes
most_bytes role.Proposals = most FileBytes
most_bytes role.Snapshot = most HistoryBytes

-- the number of the file among the file words of its command, from 1, where each `-` counts too
abbrev pub number_of : FileRole → ℕ
number_of role.Scene = 1
number_of role.Timetable = 2
number_of role.Commands = 3
number_of role.History = 4
number_of role.List = 2
number_of role.Edits = 2
number_of role.Proposals = 3
number_of role.Snapshot = 4

-- the two are one role
abbrev pub same_role : FileRole → FileRole → Bool
same_role = sameb the_type

-- the word that stands for no file
abbrev pub no_file : List ℕ
no_file = codes "-"

-- the file that a word names, where it names one
abbrev pub named_file : List ℕ → Option (List ℕ)
named_file word = cond (bytes_eq word no_file) None (Some word)

-- a file of a command: its role, and its name where it is there
pub record File : Type 0 where
  pub role : FileRole
  pub name : Option (List ℕ)

-- the file of the role with this name
abbrev pub file_as : FileRole → Option (List ℕ) → File
file_as role name = record { role = role; name = name }

-- the roles of files, in their order
abbrev pub roles_of : List File → List FileRole
roles_of files = map (λ (file : File). file.role) files

-- the names of files, in their order, where they are there
abbrev pub names_of : List File → List (Option (List ℕ))
names_of files = map (λ (file : File). file.name) files

-- these are the files, in this order, by their roles and their names, of which there is room for four
pub record AreFiles (told : RequestFiles) (files : List File) : Type 0 where
  pub roles : told.roles.now ≡ roles_of files
  pub names : map option_copied told.names ≡ names_of files ++ replicate (4 - length files) None

-- the name of the file of a role among these, where it has one
abbrev pub file_with : FileRole → List File → Option (List ℕ)
file_with role files = option_and_then (λ (file : File). file.name) (find (λ (file : File). same_role role file.role) files)
