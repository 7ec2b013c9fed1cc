use Rattle.std.proofs.Common.{codes}
use Rattle.rail_text.proofs.CallerLemmas.{both_written, part_written}
use Rattle.rail_explain.specs.Terminals.{shown_text}
use Rattle.rail_explain.proofs.policies.write_named.Goals as goal

pub returns-in_err-write_shown : goal.returns-in_err-write_shown
returns-in_err-write_shown g c =
    part_written g.O.Sink c.args.out.now c.write_shown.new.out (shown_text c.args.name.now)
    (codes ", so the command changed nothing; the policies are priority, timetable, fcfs and rotating\n") _ c.from_residual.result c.from_residual.ensures.0 c.in_err-write_shown.ensures

pub returns : goal.returns
returns g c =
    let f = c.write_whole.ensures in
    both_written g.O.Sink c.args.out.now c.write_shown.new.out c.write_whole.new.sink (shown_text c.args.name.now)
    (codes ", so the command changed nothing; the policies are priority, timetable, fcfs and rotating\n") c.write_whole.result
    c.in_ok-write_shown.ensures
    (record { adds = f.adds; failed_adds_prefix = f.failed_adds_prefix; failed_rose = f.failed_rose; faults_never_fall = f.faults_never_fall })
