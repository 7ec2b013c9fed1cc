use Rattle.std.proofs.Common.{◌≡◌, ◌∷◌}
use Rattle.rail_base.proofs.CallerLemmas.{passed_up}
use Rattle.rail_text.specs.Lines.{Line, line_at}
use Rattle.rail_reroute.proofs.JoinedLines.{all_accepted, all_read, answers_file, one_more}
use Rattle.rail_reroute.proofs.proposals.read_lines.Goals as goal

pub loop-number-preserved : goal.loop-number-preserved
loop-number-preserved c =
    let line : Line = line_at c.in-Some.field-0.number c.in-Some.field-0.line.now in
    let is : c.loop-number.number-iterator ≡ line ∷ c.next.new.self = c.in-Some.ensures.steps in
    one_more c.args.trains.now.keys c.args.routes.now.keys c.args.bytes.now c.loop-number.proposals.items c.loop-number.number-iterator c.loop-number.invariant line c.next.new.self is
    c.read_line.new.proposals.items c.in_ok-read_line.ensures.accepted c.in_ok-read_line.ensures.pushed

pub returns-in_err-read_line-clause-refused : goal.returns-in_err-read_line-clause-refused
returns-in_err-read_line-clause-refused c =
    let line : Line = line_at c.in-Some.field-0.number c.in-Some.field-0.line.now in
    let is : c.loop-number.number-iterator ≡ line ∷ c.next.new.self = c.in-Some.ensures.steps in
    passed_up c.from_residual.result _ _ c.from_residual.ensures.1
    (answers_file c.args.trains.now.keys c.args.routes.now.keys c.args.bytes.now c.loop-number.proposals.items c.loop-number.number-iterator c.loop-number.invariant line c.next.new.self is _ c.in_err-read_line.ensures.refused)

pub returns-clause-accepted : goal.returns-clause-accepted
returns-clause-accepted c =
    all_accepted c.args.trains.now.keys c.args.routes.now.keys c.args.bytes.now c.loop-number.proposals.items c.loop-number.number-iterator c.loop-number.invariant c.in-None.ensures.steps.0

pub returns-clause-read : goal.returns-clause-read
returns-clause-read c =
    all_read c.args.trains.now.keys c.args.routes.now.keys c.args.bytes.now c.loop-number.proposals.items c.loop-number.number-iterator c.loop-number.invariant c.in-None.ensures.steps.0
