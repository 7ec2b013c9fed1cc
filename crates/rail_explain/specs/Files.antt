-- In which file of a command a refusal lies, by the roles of the files that are read.
use Rattle.std.specs.Prelude.{ℕ, Bool, true, false, ◌==◌, ◌-◌, cond, find, slice_get, List, Option, Some, None}
use Rattle.rail_base.specs.declared.refusals.Part.{Part}
use Rattle.rail_base.specs.declared.refusals.Part.TheVariants as part
use Rattle.rail_base.specs.declared.refusals.Reason.{Reason}
use Rattle.rail_base.specs.declared.refusals.Reason.TheVariants.{HistoryForm, RerouteForm, RerouteName, SnapshotForm, SnapshotOther}
use Rattle.rail_base.specs.declared.refusals.Refusal.{Refusal}
use Rattle.rail_command_line.specs.declared.files.FileRole.{FileRole}
use Rattle.rail_command_line.specs.declared.files.FileRole.TheVariants as role

-- whether the lines of a file of the role say what is done: those of a list, of edits and of commands do
abbrev pub has_instructions : FileRole → Bool
has_instructions role.Scene = false
has_instructions role.Timetable = false
has_instructions role.Commands = true
has_instructions role.History = false
has_instructions role.List = true
has_instructions role.Edits = true
has_instructions role.Proposals = false
has_instructions role.Snapshot = false

-- the role of the file of lines in which a refusal lies: what is wrong in a history, a snapshot or proposals has reasons of
-- its own; any other lies in the first file with instructions
abbrev pub role_of_lines : List FileRole → Reason → Option FileRole
role_of_lines roles HistoryForm = Some role.History
role_of_lines roles SnapshotForm = Some role.Snapshot
role_of_lines roles SnapshotOther = Some role.Snapshot
role_of_lines roles RerouteForm = Some role.Proposals
role_of_lines roles RerouteName = Some role.Proposals
role_of_lines roles reason = find has_instructions roles

-- the role of the file of this number, from 1, where one of the files has it
abbrev pub role_at : List FileRole → ℕ → Option FileRole
role_at roles number = cond (number == 0) None (slice_get roles (number - 1))

-- the role of the file in which the refusal lies; a refusal of a word lies in none
abbrev pub role_of : List FileRole → Refusal → Part → Option FileRole
role_of roles refusal part.Word = None
role_of roles refusal part.Row = Some role.Timetable
role_of roles refusal part.Line = role_of_lines roles refusal.reason
role_of roles refusal part.File = role_at roles refusal.item
role_of roles refusal _ = Some role.Scene
