use Rattle.std.proofs.Common.{◌≡◌, ◌∷◌}
use Rattle.rail_base.proofs.CallerLemmas.{passed_up}
use Rattle.rail_text.specs.Lines.{Line, line_at}
use Rattle.rail_command_file.proofs.JoinedLines.{answers_file, at_end, few_commands, fine_commands, one_more}
use Rattle.rail_command_file.proofs.commands.read_commands.Goals as goal

pub loop-number-preserved : goal.loop-number-preserved
loop-number-preserved c =
    let line : Line = line_at c.in-Some.field-0.number c.in-Some.field-0.line.now in
    let is : c.loop-number.number-iterator ≡ line ∷ c.next.new.self = c.in-Some.ensures.steps in
    one_more c.args.names.now c.args.bytes.now c.loop-number.commands.items c.loop-number.number-iterator c.loop-number.invariant line c.next.new.self is
    c.read_line.new.commands.items c.in_ok-read_line.ensures.accepted c.in_ok-read_line.ensures.pushed

pub returns-in_err-read_line-clause-refused : goal.returns-in_err-read_line-clause-refused
returns-in_err-read_line-clause-refused c =
    let line : Line = line_at c.in-Some.field-0.number c.in-Some.field-0.line.now in
    let is : c.loop-number.number-iterator ≡ line ∷ c.next.new.self = c.in-Some.ensures.steps in
    passed_up c.from_residual.result _ _ c.from_residual.ensures.1
    (answers_file c.args.names.now c.args.bytes.now c.loop-number.commands.items c.loop-number.number-iterator c.loop-number.invariant line c.next.new.self is _ c.in_err-read_line.ensures.refused)

pub returns-clause-few : goal.returns-clause-few
returns-clause-few c =
    few_commands c.args.names.now c.args.bytes.now c.loop-number.commands.items
    (at_end c.args.names.now c.args.bytes.now c.loop-number.commands.items c.loop-number.number-iterator c.loop-number.invariant c.in-None.ensures.steps.0)

pub returns-clause-in_range : goal.returns-clause-in_range
returns-clause-in_range c =
    fine_commands c.args.names.now c.args.bytes.now c.loop-number.commands.items
    (at_end c.args.names.now c.args.bytes.now c.loop-number.commands.items c.loop-number.number-iterator c.loop-number.invariant c.in-None.ensures.steps.0)
