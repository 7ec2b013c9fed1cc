use Rattle.std.proofs.Common.{sym, subst, List, ℕ, arith, Ok}
use Rattle.rail_forms.specs.Reroutes.{answered_line}
use Rattle.rail_text.specs.Writes.{WritesText}
use Rattle.rail_forms.proofs.CapacityTexts.{texts_more, texts_whole}
use Rattle.rail_text.proofs.CallerLemmas.{both_written, part_written}
use Rattle.rail_forms.proofs.reroute.write_answers.Goals as goal

pub returns-in_err-write_judged : goal.returns-in_err-write_judged
returns-in_err-write_judged g c =
    let line = answered_line c.args.scene.now in
    let Written : List ℕ → Type 0 = λ text. WritesText g.O.Sink c.args.out.now c.write_judged.new.out text c.from_residual.result in
    let here = both_written g.O.Sink _ _ _ _ _ _ c.loop-answer.invariant c.in_err-write_judged.ensures in
    subst Written (sym (texts_whole line c.args.answers.now c.loop-answer.answer-index c.answer-item.result (omega arith) c.answer-item.is))
    (part_written g.O.Sink _ _ _ _ _ c.from_residual.result c.from_residual.ensures.0 here)

pub loop-answer-preserved : goal.loop-answer-preserved
loop-answer-preserved g c =
    subst (λ (text : List ℕ). WritesText g.O.Sink c.args.out.now c.write_judged.new.out text (Ok tt))
    (sym (texts_more (answered_line c.args.scene.now) c.args.answers.now c.loop-answer.answer-index c.answer-item.result (omega arith) c.answer-item.is))
    (both_written g.O.Sink _ _ _ _ _ _ c.loop-answer.invariant c.in_ok-write_judged.ensures)
