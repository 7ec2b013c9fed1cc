use Rattle.std.proofs.Common.{Some, codes}
use Rattle.rail_text.proofs.CallerLemmas.{both_written, part_written}
use Rattle.rail_explain.specs.Explanations.{file_text}
use Rattle.rail_explain.proofs.refusals.write_read_fault.Goals as goal

pub returns-in_err-write_file : goal.returns-in_err-write_file
returns-in_err-write_file g c = part_written g.O.Sink c.args.out.now c.write_file.new.out (file_text (Some c.args.file.now))
    (codes "the file is not there, or could not be read\n") _ c.from_residual.result c.from_residual.ensures.0 c.in_err-write_file.ensures

pub returns : goal.returns
returns g c =
    let f = c.write_whole.ensures in
    both_written g.O.Sink c.args.out.now c.write_file.new.out c.write_whole.new.sink (file_text (Some c.args.file.now))
    (codes "the file is not there, or could not be read\n") c.write_whole.result c.in_ok-write_file.ensures
    (record { adds = f.adds; failed_adds_prefix = f.failed_adds_prefix; failed_rose = f.failed_rose; faults_never_fall = f.faults_never_fall })
