use Rattle.std.proofs.Common.{◌≡◌, ◌+◌, cond, ap, ◌∙◌, arith, refl}
use mir.Val.{bool_byte}
use Rattle.std.proofs.lemmas.Result.{err_from_is_err_and}
use Rattle.rail_history.specs.declared.file_lines.FileLines.{FileLines}
use Rattle.rail_history.specs.HistoryLines.{is_fresh}
use Rattle.rail_history.specs.LineReads.{line_read}
use Rattle.rail_history.proofs.ReadOn.{one_of, read_one, refused_behind}
use Rattle.rail_history.proofs.file_lines.FileLines.next_line.Goals as goal

pub returns-in_err-line-clause-refused : goal.returns-in_err-line-clause-refused
returns-in_err-line-clause-refused c =
    let p = err_from_is_err_and c.from_residual.result c.from_residual.ensures.1 in
    let refused = refused_behind c.args.names.now c.args.self.now c.cut_line.result.0.now (c.args.self.now.number + 1) refl c.requires.some c.cut_line.ensures.line c.in_err-line.field-0.0 c.in_err-line.ensures.refused in
    rw (p.1, p.2) refused

pub returns-clause-read : goal.returns-clause-read
returns-clause-read c = λ plant has bytes lines so_far.
    let old : FileLines = c.args.self.now in
    let new : FileLines = record { text = c.cut_line.result.1; number = old.number + 1; fresh = old.fresh + c.from.result } in
    let more : c.from.result ≡ cond (is_fresh c.in_ok-line.line.entry.what) 1 0 = c.from.ensures ∙ ap bool_byte c.is_fresh.ensures ∙ one_of (is_fresh c.in_ok-line.line.entry.what) in
    read_one plant bytes lines (line_read c.in_ok-line.line) old new c.cut_line.result.0.now so_far (c.in_ok-line.ensures.read plant has) c.cut_line.ensures.whole refl
    (ap (λ n. old.fresh + n) more) (omega (arith, more, c.in_ok-line.ensures.within)) (c.cut_line.ensures.some c.requires.some)
