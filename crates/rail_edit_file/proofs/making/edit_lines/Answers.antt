use Rattle.std.proofs.Common.{◌≡◌, ◌∷◌}
use Rattle.rail_base.proofs.CallerLemmas.{passed_up}
use Rattle.rail_text.specs.Lines.{Line, line_at, lines_of}
use Rattle.rail_edit_file.proofs.JoinedLines.{answers_lines, one_more}
use Rattle.rail_edit_file.proofs.making.edit_lines.Goals as goal

pub loop-number-preserved : goal.loop-number-preserved
loop-number-preserved c =
    let line : Line = line_at c.in-Some.field-0.number c.in-Some.field-0.line.now in
    let is : c.loop-number.number-iterator ≡ line ∷ c.next.new.self = c.in-Some.ensures.steps in
    one_more (lines_of c.args.bytes.now) c.args.editor.now c.loop-number.editor c.loop-number.number-iterator c.loop-number.invariant line c.next.new.self is
    _ c.in_ok-make_line.ensures.accepted c.in_ok-make_line.ensures.edited

pub returns-in_err-make_line-clause-refused : goal.returns-in_err-make_line-clause-refused
returns-in_err-make_line-clause-refused c =
    let line : Line = line_at c.in-Some.field-0.number c.in-Some.field-0.line.now in
    let is : c.loop-number.number-iterator ≡ line ∷ c.next.new.self = c.in-Some.ensures.steps in
    passed_up c.from_residual.result _ _ c.from_residual.ensures.1
    (answers_lines (lines_of c.args.bytes.now) c.args.editor.now c.loop-number.editor c.loop-number.number-iterator c.loop-number.invariant line c.next.new.self is _ c.in_err-make_line.ensures.refused)
