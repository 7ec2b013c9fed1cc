use Rattle.std.proofs.Common.{◌≡◌, ℕ, List, refl, ap, ◌∙◌, subst}
use Rattle.rail_io.specs.Writes.{Adds, AddsPrefix}
use Rattle.rail_rules.specs.Plant.{trains}
use Rattle.rail_forms.specs.BegunRuns.{input_of}
use Rattle.rail_forms.specs.Summaries.{summary_line}
use Rattle.rail_forms.proofs.Answers.{part_answer}
use Rattle.rail_forms.proofs.Summaries.{summary_told}
use Rattle.rail_forms.proofs.Writes.{all_written, ended-failed, fault_written}
use Rattle.rail_forms.proofs.summary.summarize.Goals as goal

pub returns-in_err-write_whole-clause-answer : goal.returns-in_err-write_whole-clause-answer
returns-in_err-write_whole-clause-answer g c =
    let plant = c.plant.result.now in
    let text : c.as_slice.result.now ≡ summary_line c.args.number (trains plant) c.follow_to_end.new.notes =
    c.as_slice.ensures ∙ c.text_of-line.ensures ∙ ap (λ n. summary_line c.args.number n c.follow_to_end.new.notes) (c.trains.ensures.count ∙ c.moves.ensures.trains) in
    let X : List ℕ → Type 0 = AddsPrefix (g.O.Sink.written c.args.out.now) (g.O.Sink.written c.write_whole.new.sink) in
    part_answer _ _ _ (ended-failed c.from_residual.result c.from_residual.ensures.1)
    (summary_told c.args.number (input_of c.args.begun) _ c.follow_to_end.new.notes plant
    (c.plant.ensures ∙ c.in-Ok.ensures.plant) c.in-Ok.ensures.noted X (subst X text c.in_err-write_whole.ensures.failed_adds_prefix))

pub returns-in_err-write_whole-clause-writes : goal.returns-in_err-write_whole-clause-writes
returns-in_err-write_whole-clause-writes g c =
    fault_written g.O.Sink _ _ _ (ended-failed c.from_residual.result c.from_residual.ensures.1)
    c.in_err-write_whole.ensures.failed_rose c.write_whole.ensures.faults_never_fall

pub returns-clause-answer : goal.returns-clause-answer
returns-clause-answer g c =
    let plant = c.plant.result.now in
    let text : c.as_slice.result.now ≡ summary_line c.args.number (trains plant) c.follow_to_end.new.notes =
    c.as_slice.ensures ∙ c.text_of-line.ensures ∙ ap (λ n. summary_line c.args.number n c.follow_to_end.new.notes) (c.trains.ensures.count ∙ c.moves.ensures.trains) in
    let X : List ℕ → Type 0 = Adds (g.O.Sink.written c.args.out.now) (g.O.Sink.written c.write_whole.new.sink) in (
      refl,
      summary_told c.args.number (input_of c.args.begun) _ c.follow_to_end.new.notes plant
          (c.plant.ensures ∙ c.in-Ok.ensures.plant) c.in-Ok.ensures.noted X (subst X text c.in_ok-write_whole.ensures.adds),
    )

pub returns-clause-writes : goal.returns-clause-writes
returns-clause-writes g c = all_written g.O.Sink _ _ c.write_whole.ensures.faults_never_fall
