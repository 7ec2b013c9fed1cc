use Rattle.std.proofs.Common.{[], ◌∷◌, subst, ◌∙◌, arith}
use Rattle.std.proofs.lemmas.Result.{on_ok_weaker, on_err_weaker}
use Rattle.rail_io.specs.Writes.{Adds, AddsPrefix}
use Rattle.rail_io.proofs.CallerLemmas.{AddsPrefix-more}
use Rattle.rail_rules.specs.Texts.{line_text}
use Rattle.rail_history.specs.Lines.{line_of}
use Rattle.rail_history.proofs.Brought.{text_together}
use Rattle.rail_history.proofs.Pieces.{ended_then, failed_then}
use Rattle.rail_history.proofs.writing.write_entry.Goals as goal

pub returns-in_err-put_brought-clause-failed_adds_prefix :
    goal.returns-in_err-put_brought-clause-failed_adds_prefix
returns-in_err-put_brought-clause-failed_adds_prefix g c = λ plant named.
    let text = text_together plant c.args.names.now named c.args.entry c.args.kept.now (c.put_what.ensures.text plant named) c.begin.ensures.text in
    let part : AddsPrefix (g.O.Sink.written c.args.out.now) (g.O.Sink.written c.put_brought.new.out) (line_text plant (line_of c.args.entry c.args.kept.now)) =
    subst (AddsPrefix _ _) text (AddsPrefix-more (10 ∷ []) c.in_err-put_brought.ensures.failed_adds_prefix) in
    grind (arith, part)

pub returns-clause-adds : goal.returns-clause-adds
returns-clause-adds g c = λ plant named.
    let text = text_together plant c.args.names.now named c.args.entry c.args.kept.now (c.put_what.ensures.text plant named) c.begin.ensures.text in
    let piece = c.as_slice.ensures ∙ c.put.ensures in
    on_ok_weaker c.write_whole.result
    (λ d. subst (Adds (g.O.Sink.written c.args.out.now) (g.O.Sink.written c.write_whole.new.sink)) text (ended_then c.in_ok-put_brought.ensures.adds (10 ∷ []) (subst (Adds (g.O.Sink.written c.put_brought.new.out) (g.O.Sink.written c.write_whole.new.sink)) piece d)))
    c.write_whole.ensures.adds

pub returns-clause-failed_adds_prefix : goal.returns-clause-failed_adds_prefix
returns-clause-failed_adds_prefix g c = λ plant named.
    let text = text_together plant c.args.names.now named c.args.entry c.args.kept.now (c.put_what.ensures.text plant named) c.begin.ensures.text in
    let piece = c.as_slice.ensures ∙ c.put.ensures in
    on_err_weaker c.write_whole.result
    (λ d. subst (AddsPrefix (g.O.Sink.written c.args.out.now) (g.O.Sink.written c.write_whole.new.sink)) text (failed_then c.in_ok-put_brought.ensures.adds (10 ∷ []) (subst (AddsPrefix (g.O.Sink.written c.put_brought.new.out) (g.O.Sink.written c.write_whole.new.sink)) piece d)))
    c.write_whole.ensures.failed_adds_prefix
