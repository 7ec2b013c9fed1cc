-- What the first call took, and what was taken of the rest, is a first part of the piece.
use Rattle.std.proofs.Common.{subst}
use Rattle.std.proofs.lemmas.List.{take-append-drop, take_rest}
use Rattle.std.proofs.lemmas.Result.{on_err_weaker}
use Rattle.rail_io.specs.Writes.{AddsPrefix}
use Rattle.rail_io.proofs.Added.{AddsPrefix-append}
use Rattle.rail_io.proofs.whole_files.write_whole.Goals as goal

pub returns-clause-failed_adds_prefix : goal.returns-clause-failed_adds_prefix
returns-clause-failed_adds_prefix g c =
    on_err_weaker c.write_rest.result
    (λ part. subst (AddsPrefix (g.O.Sink.written c.args.sink.now) (g.O.Sink.written c.write_rest.new.sink))
    (take-append-drop c.in_ok-count.count c.args.piece.now) (AddsPrefix-append c.in_ok-count.ensures.adds (rw take_rest at part)))
    c.write_rest.ensures.failed_adds_prefix
