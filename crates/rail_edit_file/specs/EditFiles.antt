-- Edit files: what they make of a network, and where they are refused.
use Rattle.std.specs.Prelude.{ℕ, is_none, List, [], ◌∷◌, Option, Some, None, unwrap_or}
use Rattle.std.specs.Option.{option_map_or}
use Rattle.rail_base.specs.FirstRefusals.{first_failing}
use Rattle.rail_base.specs.declared.refusals.Part.TheVariants as part
use Rattle.rail_base.specs.declared.refusals.Reason.TheVariants.{EditForm, NothingToRedo, NothingToUndo}
use Rattle.rail_base.specs.declared.refusals.Refusal.{Refusal}
use Rattle.rail_rules.specs.Numbers.{or_else}
use Rattle.rail_track.specs.NetFaults.{refused_where}
use Rattle.rail_track.specs.declared.section.NetFault.{NetFault}
use Rattle.rail_track.specs.declared.section.NetFault.TheVariants.{Refused, OutOfMemory}
use Rattle.rail_routes.specs.Net.{Net}
use Rattle.rail_text.specs.Lines.{Line, lines_of, refusal_at}
use Rattle.rail_edit.specs.Editing.{Editing, after_edit, after_redo, after_undo, editing, refusal}
use Rattle.rail_edit.specs.declared.editor.EditFault.{EditFault}
use Rattle.rail_edit.specs.declared.editor.EditFault.TheVariants as fault
use Rattle.rail_edit_file.specs.declared.spelling.EditLine.{EditLine}
use Rattle.rail_edit_file.specs.declared.spelling.EditLine.TheVariants.{Change, Undo, Redo}
use Rattle.rail_edit_file.specs.EditLines.{edit_line}

-- the editor after what a line asks for
abbrev pub after_asked : EditLine → Editing → Editing
after_asked (Change edit) e = after_edit edit e
after_asked Undo e = unwrap_or (after_undo e) e
after_asked Redo e = unwrap_or (after_redo e) e

-- why an editor refuses what a line asks for
abbrev pub asked_refusal : EditLine → Editing → Option NetFault
asked_refusal (Change edit) e = refusal edit e
asked_refusal Undo e = first_failing (refused_where NothingToUndo 0 (is_none (after_undo e)) ∷ [])
asked_refusal Redo e = first_failing (refused_where NothingToRedo 0 (is_none (after_redo e)) ∷ [])

-- the refusal of an editor, at the line of this number
abbrev pub on_line : ℕ → Option NetFault → Option Refusal
on_line n (Some (Refused reason step)) = Some record { reason = reason; part = part.Line; item = n; step = step }
on_line n (Some OutOfMemory) = None
on_line n None = None

-- the fault of an undo or a redo, as one of a network
abbrev pub fault_of : EditFault → NetFault
fault_of fault.NothingToUndo = Refused NothingToUndo 0
fault_of fault.NothingToRedo = Refused NothingToRedo 0
fault_of fault.OutOfMemory = OutOfMemory

-- why an editor refuses the line of this number, which asks for this
abbrev pub asked_at : ℕ → Option EditLine → Editing → Option Refusal
asked_at n None e = Some (refusal_at EditForm n)
asked_at n (Some asked) e = on_line n (asked_refusal asked e)

-- the editor after a line
abbrev pub after_line : Line → Editing → Editing
after_line line e = option_map_or (λ asked. after_asked asked e) (edit_line line.words) e

-- the editor after these lines, one after the other
abbrev pub after_lines : List Line → Editing → Editing
after_lines [] e = e
after_lines (line ∷ lines) e = after_lines lines (after_line line e)

-- why an editor refuses these lines: line by line, each with the editor after those before it
abbrev pub lines_refusal : List Line → Editing → Option Refusal
lines_refusal [] e = None
lines_refusal (line ∷ lines) e = or_else (asked_at line.number (edit_line line.words) e) (lines_refusal lines (after_line line e))

-- why an edit file for this network is refused
abbrev pub edits_refusal : Net → List ℕ → Option Refusal
edits_refusal net bytes = lines_refusal (lines_of bytes) (editing net)

-- the network after the edits of a file
abbrev pub edited_network : Net → List ℕ → Net
edited_network net bytes = (after_lines (lines_of bytes) (editing net)).network
