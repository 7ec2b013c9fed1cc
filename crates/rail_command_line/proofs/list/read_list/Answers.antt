use Rattle.std.proofs.Common.{◌≡◌, ◌∷◌, length}
use Rattle.rail_base.proofs.CallerLemmas.{passed_up}
use Rattle.rail_rules.specs.Moves.{Moves}
use Rattle.rail_place.specs.Tables.{moves_in}
use Rattle.rail_text.specs.Lines.{Line, line_at}
use Rattle.rail_command_line.proofs.JoinedLines.{all_accepted, all_read, answers_file, one_more}
use Rattle.rail_command_line.proofs.list.read_list.Goals as goal

pub loop-number-preserved : goal.loop-number-preserved
loop-number-preserved c =
    let plan : Moves = moves_in c.args.moves.now in
    let line : Line = line_at c.in-Some.field-0.number c.in-Some.field-0.line.now in
    let is : c.loop-number.number-iterator ≡ line ∷ c.next.new.self = c.in-Some.ensures.steps in
    record {
      so_far = one_more c.args.names.now.trains.keys plan c.args.may_move (length c.args.moves.now) c.args.bytes.now c.loop-number.file c.loop-number.number-iterator c.loop-number.invariant.so_far line c.next.new.self is
          _ c.in_ok-read_line.ensures.accepted c.in_ok-read_line.ensures.listed;
      fit = c.in_ok-read_line.ensures.list;
    }

pub returns-in_err-read_line-clause-refused : goal.returns-in_err-read_line-clause-refused
returns-in_err-read_line-clause-refused c =
    let plan : Moves = moves_in c.args.moves.now in
    let line : Line = line_at c.in-Some.field-0.number c.in-Some.field-0.line.now in
    let is : c.loop-number.number-iterator ≡ line ∷ c.next.new.self = c.in-Some.ensures.steps in
    passed_up c.from_residual-in_err-read_line.result _ _ c.from_residual-in_err-read_line.ensures.1
    (answers_file c.args.names.now.trains.keys plan c.args.may_move (length c.args.moves.now) c.args.bytes.now c.loop-number.file c.loop-number.number-iterator c.loop-number.invariant.so_far line c.next.new.self is
    _ c.in_err-read_line.ensures.refused)

pub returns-clause-accepted : goal.returns-clause-accepted
returns-clause-accepted c =
    all_accepted c.args.names.now.trains.keys (moves_in c.args.moves.now) c.args.may_move (length c.args.moves.now) c.args.bytes.now c.loop-number.file c.loop-number.number-iterator c.loop-number.invariant.so_far c.in-None.ensures.steps.0

pub returns-clause-listed : goal.returns-clause-listed
returns-clause-listed c =
    all_read c.args.names.now.trains.keys (moves_in c.args.moves.now) c.args.may_move (length c.args.moves.now) c.args.bytes.now c.loop-number.file c.loop-number.number-iterator c.loop-number.invariant.so_far c.in-None.ensures.steps.0
