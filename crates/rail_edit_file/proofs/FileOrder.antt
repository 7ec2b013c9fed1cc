-- Which of the two files is refused first, and that neither is refused for its size.
use Rattle.std.proofs.Common.{◌≡◌, ℕ, false, List, [], ◌∷◌, Option, Some, None, refl, sym, ap, ◌∙◌}
use Rattle.rail_base.specs.Refusals.{AnswersFirst, is_file}
use Rattle.rail_base.specs.declared.refusals.Fault.{Fault}
use Rattle.rail_base.specs.declared.refusals.Fault.TheVariants as fault
use Rattle.rail_base.specs.declared.refusals.Part.TheVariants.{Line}
use Rattle.rail_base.specs.declared.refusals.Reason.TheVariants.{EditForm}
use Rattle.rail_base.specs.declared.refusals.Refusal.{Refusal}
use Rattle.rail_rules.specs.Numbers.{or_else}
use Rattle.rail_track.specs.declared.section.NetFault.{NetFault}
use Rattle.rail_track.specs.declared.section.NetFault.TheVariants.{Refused, OutOfMemory}
use Rattle.rail_routes.specs.Net.{Net}
use Rattle.rail_text.specs.Lines.{Line as FileLine, lines_of, refusal_at}
use Rattle.rail_edit.specs.Editing.{Editing, editing}
use Rattle.rail_input.specs.Inputs.{refuses_file}
use Rattle.rail_edit_file.specs.declared.spelling.EditLine.{EditLine}
use Rattle.rail_edit_file.specs.EditFiles.{after_line, asked_at, asked_refusal, edits_refusal, lines_refusal, on_line}
use Rattle.rail_edit_file.specs.EditLines.{edit_line}

-- what answers the first answers it and others behind it
pub first_answers : (first other : Option Refusal) (answer : Fault) → AnswersFirst first answer → AnswersFirst (or_else first other) answer
first_answers (Some r) other answer is = is
first_answers None other (fault.Refused r) is = cc
first_answers None other fault.OutOfMemory is = tt

-- a refusal of a line is none of a file
on_line_part : (n : ℕ) (o : Option NetFault) (r : Refusal) → on_line n o ≡ Some r → is_file r.part ≡ false
on_line_part n None r is = cc
on_line_part n (Some OutOfMemory) r is = cc
on_line_part n (Some (Refused reason step)) r is =
    let same : record { reason = reason; part = Line; item = n; step = step } ≡ r = cc in
    ap (λ (x : Refusal). is_file x.part) (sym same)

asked_part : (n : ℕ) (asked : Option EditLine) (e : Editing) (r : Refusal) → asked_at n asked e ≡ Some r → is_file r.part ≡ false
asked_part n None e r is =
    let same : refusal_at EditForm n ≡ r = cc in
    ap (λ (x : Refusal). is_file x.part) (sym same)
asked_part n (Some asked) e r is = on_line_part n (asked_refusal asked e) r is

lines_part : (lines : List FileLine) (e : Editing) (r : Refusal) → lines_refusal lines e ≡ Some r → is_file r.part ≡ false
lines_part [] e r is = cc
lines_part (line ∷ lines) e r is = by (asked_at line.number (edit_line line.words) e) refl (lines_part lines (after_line line e) r) is
  where
    by : (o : Option Refusal) → asked_at line.number (edit_line line.words) e ≡ o → (lines_refusal lines (after_line line e) ≡ Some r → is_file r.part ≡ false)
        → or_else o (lines_refusal lines (after_line line e)) ≡ Some r → is_file r.part ≡ false
    by None at rest is = rest is
    by (Some s) at rest is = asked_part line.number (edit_line line.words) e r (at ∙ is)

-- a fault that answers the refusal of an edit file
pub edits_fault : (net : Net) (bytes : List ℕ) (answer : Fault) → AnswersFirst (edits_refusal net bytes) answer → refuses_file answer ≡ false
edits_fault net bytes (fault.Refused r) is = lines_part (lines_of bytes) (editing net) r is
edits_fault net bytes fault.OutOfMemory is = refl
