use Rattle.std.proofs.Common.{[], refl, ◌∙◌, subst}
use Rattle.rail_io.specs.Writes.{Adds, AddsPrefix}
use Rattle.rail_rules.specs.Plant.{Plant}
use Rattle.rail_stairs.specs.NotedHistories.{AreNoted}
use Rattle.rail_forms.specs.declared.status.Status.TheVariants.{OutOfMemory}
use Rattle.rail_forms.specs.BegunRuns.{input_of}
use Rattle.rail_forms.proofs.Answers.{ended_with, part_answer}
use Rattle.rail_forms.proofs.NotedRuns.{noted_here, stairs_ended, stairs_noted, stairs_told}
use Rattle.rail_forms.proofs.Writes.{all_written, ended-failed, fault_written, none_written}
use Rattle.rail_forms.proofs.stairs.report.Goals as goal

pub returns-in_err-stairs-clause-writes : goal.returns-in_err-stairs-clause-writes
returns-in_err-stairs-clause-writes g c = none_written g.O.Sink _ _ (ended_with c.from_residual.result OutOfMemory c.from_residual.ensures.1)

pub follow_to_end-requires-clause-none : goal.follow_to_end-requires-clause-none
follow_to_end-requires-clause-none g c = subst (λ (p : Plant). AreNoted p [] c.in_ok-stairs.stairs) c.plant.ensures c.in_ok-stairs.ensures

pub write_stairs-requires-clause-noted : goal.write_stairs-requires-clause-noted
write_stairs-requires-clause-noted g c =
    stairs_noted (input_of c.args.begun) _ c.follow_to_end.new.notes c.plant-2.result.now (c.plant-2.ensures ∙ c.in-Ok.ensures.plant) c.in-Ok.ensures.noted

pub write_stairs-requires-clause-ended : goal.write_stairs-requires-clause-ended
write_stairs-requires-clause-ended g c =
    stairs_ended (input_of c.args.begun) _ c.follow_to_end.new.notes c.plant-2.result.now (c.plant-2.ensures ∙ c.in-Ok.ensures.plant) c.in-Ok.ensures.noted

pub returns-in_err-write_stairs-clause-answer : goal.returns-in_err-write_stairs-clause-answer
returns-in_err-write_stairs-clause-answer g c =
    part_answer _ _ _ (ended-failed c.from_residual-in_err-write_stairs.result c.from_residual-in_err-write_stairs.ensures.1)
    (stairs_told (input_of c.args.begun) _ c.follow_to_end.new.notes c.plant-2.result.now (c.plant-2.ensures ∙ c.in-Ok.ensures.plant) c.in-Ok.ensures.noted
    (AddsPrefix (g.O.Sink.written c.args.out.now) (g.O.Sink.written c.write_stairs.new.out)) (λ front noted. (c.in_err-write_stairs.ensures front noted).failed_adds_prefix))

pub returns-in_err-write_stairs-clause-writes : goal.returns-in_err-write_stairs-clause-writes
returns-in_err-write_stairs-clause-writes g c =
    let here = noted_here (input_of c.args.begun) _ c.follow_to_end.new.notes c.plant-2.result.now (c.plant-2.ensures ∙ c.in-Ok.ensures.plant) c.in-Ok.ensures.noted in
    let written = c.in_err-write_stairs.ensures c.in-Ok.ensures.noted.front here in
    fault_written g.O.Sink _ _ _ (ended-failed c.from_residual-in_err-write_stairs.result c.from_residual-in_err-write_stairs.ensures.1) written.failed_rose written.faults_never_fall

pub returns-clause-answer : goal.returns-clause-answer
returns-clause-answer g c = (
  refl,
  stairs_told (input_of c.args.begun) _ c.follow_to_end.new.notes c.plant-2.result.now (c.plant-2.ensures ∙ c.in-Ok.ensures.plant) c.in-Ok.ensures.noted
      (Adds (g.O.Sink.written c.args.out.now) (g.O.Sink.written c.write_stairs.new.out)) (λ front noted. (c.in_ok-write_stairs.ensures front noted).adds),
)

pub returns-clause-writes : goal.returns-clause-writes
returns-clause-writes g c =
    let here = noted_here (input_of c.args.begun) _ c.follow_to_end.new.notes c.plant-2.result.now (c.plant-2.ensures ∙ c.in-Ok.ensures.plant) c.in-Ok.ensures.noted in
    let written = c.in_ok-write_stairs.ensures c.in-Ok.ensures.noted.front here in
    all_written g.O.Sink _ _ written.faults_never_fall
