use Rattle.std.proofs.Common.{◌+◌, ◌*◌, ◌<◌, List, length, ap, arith}
use Rattle.rail_base.specs.declared.orders.Command.{Command}
use Rattle.rail_rules.specs.Plant.{Plant, bound, trains}
use Rattle.rail_forms.proofs.SnapshotAnswers.{on_err, on_ok, rest_written, rest_written_in_part}
use Rattle.rail_forms.proofs.resume.write_rest.Goals as goal

pub returns-clause-written : goal.returns-clause-written
returns-clause-written g c = λ seats lines marks stands.
    let input = c.args.engine.core.input in
    let many : bound input.plant (length input.commands.items) * (trains input.plant + 1) < c.most_steps-most.result =
    omega (
      arith,
      c.most_steps-most.ensures,
      ap (λ (plant : Plant). bound plant (length c.commands.result.now) * (trains plant + 1)) c.plant.ensures,
      ap (λ (commands : List Command). bound input.plant (length commands) * (trains input.plant + 1)) c.commands.ensures,
    ) in
    on_ok c.write_lines.result (λ written. rest_written seats lines _ _ _ _ _ input c.write_lines.ensures.input marks many written) (c.write_lines.ensures.written seats _ stands)

pub returns-clause-failed : goal.returns-clause-failed
returns-clause-failed g c = λ seats lines stands.
    on_err c.write_lines.result (λ written. rest_written_in_part seats lines _ _ _ _ _ c.args.engine.core.input c.write_lines.ensures.input written) (c.write_lines.ensures.failed seats _ stands)
