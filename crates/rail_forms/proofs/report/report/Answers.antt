use Rattle.std.proofs.Common.{[], List, refl, ◌∙◌, subst}
use Rattle.rail_io.specs.Writes.{Adds, AddsPrefix}
use Rattle.rail_rules.specs.Plant.{Plant}
use Rattle.rail_base.specs.declared.orders.Command.{Command}
use Rattle.rail_delay.specs.Accounts.{AreNoted}
use Rattle.rail_forms.specs.declared.status.Status.TheVariants.{OutOfMemory}
use Rattle.rail_forms.specs.BegunRuns.{input_of}
use Rattle.rail_forms.proofs.Answers.{ended_with, part_answer}
use Rattle.rail_forms.proofs.NotedRuns.{accounts_made, delays_noted, report_told}
use Rattle.rail_forms.proofs.Writes.{all_written, ended-failed, fault_written, none_written}
use Rattle.rail_forms.proofs.report.report.Goals as goal

pub returns-in_err-delays-clause-writes : goal.returns-in_err-delays-clause-writes
returns-in_err-delays-clause-writes g c = none_written g.O.Sink _ _ (ended_with c.from_residual.result OutOfMemory c.from_residual.ensures.1)

pub follow_to_end-requires-clause-none : goal.follow_to_end-requires-clause-none
follow_to_end-requires-clause-none g c =
    let commands = (input_of c.args.begun).commands in
    subst (λ (p : Plant). AreNoted p commands [] c.in_ok-delays.delays) c.plant.ensures
    (subst (λ (commands : List Command). AreNoted c.plant.result.now commands [] c.in_ok-delays.delays) c.commands.ensures c.in_ok-delays.ensures.noted)

pub write_report-requires : goal.write_report-requires
write_report-requires g c = accounts_made (input_of c.args.begun) _ c.follow_to_end.new.notes c.plant-2.result.now (c.plant-2.ensures ∙ c.in-Ok.ensures.plant) c.in-Ok.ensures.noted

pub returns-in_err-write_report-clause-answer : goal.returns-in_err-write_report-clause-answer
returns-in_err-write_report-clause-answer g c =
    part_answer _ _ _ (ended-failed c.from_residual-in_err-write_report.result c.from_residual-in_err-write_report.ensures.1)
    (report_told (input_of c.args.begun) _ c.follow_to_end.new.notes c.plant-2.result.now (c.plant-2.ensures ∙ c.in-Ok.ensures.plant) c.in-Ok.ensures.noted
    (AddsPrefix (g.O.Sink.written c.args.out.now) (g.O.Sink.written c.write_report.new.out)) (λ commands front noted. (c.in_err-write_report.ensures commands front noted).failed_adds_prefix))

pub returns-in_err-write_report-clause-writes : goal.returns-in_err-write_report-clause-writes
returns-in_err-write_report-clause-writes g c =
    let here = delays_noted (input_of c.args.begun) _ c.follow_to_end.new.notes c.plant-2.result.now (c.plant-2.ensures ∙ c.in-Ok.ensures.plant) c.in-Ok.ensures.noted in
    let written = c.in_err-write_report.ensures (input_of c.args.begun).commands c.in-Ok.ensures.noted.front here in
    fault_written g.O.Sink _ _ _ (ended-failed c.from_residual-in_err-write_report.result c.from_residual-in_err-write_report.ensures.1) written.failed_rose written.faults_never_fall

pub returns-clause-answer : goal.returns-clause-answer
returns-clause-answer g c = (
  refl,
  report_told (input_of c.args.begun) _ c.follow_to_end.new.notes c.plant-2.result.now (c.plant-2.ensures ∙ c.in-Ok.ensures.plant) c.in-Ok.ensures.noted
      (Adds (g.O.Sink.written c.args.out.now) (g.O.Sink.written c.write_report.new.out)) (λ commands front noted. (c.in_ok-write_report.ensures commands front noted).adds),
)

pub returns-clause-writes : goal.returns-clause-writes
returns-clause-writes g c =
    let here = delays_noted (input_of c.args.begun) _ c.follow_to_end.new.notes c.plant-2.result.now (c.plant-2.ensures ∙ c.in-Ok.ensures.plant) c.in-Ok.ensures.noted in
    let written = c.in_ok-write_report.ensures (input_of c.args.begun).commands c.in-Ok.ensures.noted.front here in
    all_written g.O.Sink _ _ written.faults_never_fall
