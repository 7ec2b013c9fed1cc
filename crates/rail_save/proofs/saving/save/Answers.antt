use Rattle.std.proofs.Common.{[], arith}
use Rattle.std.proofs.lemmas.Result.{err_from_is_err_and}
use Rattle.rail_save.proofs.WrittenLines.{header_cut, saved, saved_in_part}
use Rattle.rail_save.proofs.saving.save.Goals as goal

pub returns-in_err-write_whole-clause-failed : goal.returns-in_err-write_whole-clause-failed
returns-in_err-write_whole-clause-failed g c =
    let failed = err_from_is_err_and c.from_residual.result c.from_residual.ensures.1 in
    rw failed.1 (header_cut _ c.args.count _ _ g.O.Sink c.args.out.now c.write_whole.new.sink c.requires.begun c.in_err-write_whole.ensures.failed_adds_prefix)

pub write_lines-requires : goal.write_lines-requires
write_lines-requires g c = record { somewhere = record { seats = _; front = []; stands = c.requires.begun } }

pub returns-in_err-write_lines-clause-failed : goal.returns-in_err-write_lines-clause-failed
returns-in_err-write_lines-clause-failed g c =
    let failed = err_from_is_err_and c.from_residual-in_err-write_lines.result c.from_residual-in_err-write_lines.ensures.1 in
    rw failed.1 (saved_in_part g.O.Sink _ c.args.count _ _ c.args.out.now c.write_whole.new.sink c.write_lines.new.out c.in_ok-write_whole.ensures.adds (c.in_err-write_lines.ensures.failed _ [] c.requires.begun))

pub returns-in_err-write_lines-clause-failed_rose : goal.returns-in_err-write_lines-clause-failed_rose
returns-in_err-write_lines-clause-failed_rose g c =
    let failed = err_from_is_err_and c.from_residual-in_err-write_lines.result c.from_residual-in_err-write_lines.ensures.1 in
    rw failed.1 (λ other. let rises = c.in_err-write_lines.ensures.failed_rose other in omega (arith, rises, c.in_ok-write_whole.ensures.faults_never_fall))

pub returns-clause-saved : goal.returns-clause-saved
returns-clause-saved g c =
    saved g.O.Sink _ c.args.count _ _ c.args.out.now c.write_whole.new.sink c.write_lines.new.out c.in_ok-write_whole.ensures.adds (c.in_ok-write_lines.ensures.written _ [] c.requires.begun)
