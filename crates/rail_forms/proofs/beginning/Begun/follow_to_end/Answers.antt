use Rattle.std.proofs.Common.{◌*◌, ◌+◌, List, length, refl, ap, ◌∙◌, arith}
use Rattle.std.proofs.lemmas.Result.{err_from_is_err_and}
use Rattle.rail_rules.specs.Plant.{Plant, bound, trains}
use Rattle.rail_ledger.specs.declared.input.RunInput.{RunInput}
use Rattle.rail_ledger.specs.Inputs.{input_in}
use Rattle.rail_ledger.specs.Ledgers.{line_in}
use Rattle.rail_base.specs.declared.orders.Command.{Command}
use Rattle.rail_forms.proofs.Progress.{few_lines, next_noted, noted_cut, noted_ended}
use Rattle.rail_forms.proofs.beginning.Begun.follow_to_end.Goals as goal

pub loop-init : goal.loop-init
loop-init g c = record {
  input = refl;
  so_far = record { front = _; stands = c.requires.begun.stands; long = refl; noted = c.requires.none };
}

pub returns-in_default-clause-noted : goal.returns-in_default-clause-noted
returns-in_default-clause-noted g c =
    let so_far = c.loop.invariant.so_far in
    noted_ended (λ input front. g.N.LineNotes.are_noted input front c.args.notes.now c.loop.notes) _ _ c.loop.engine.core _
    c.args.self.engine.core.input c.loop.invariant.input c.requires.begun.marks so_far
    (c.in_default.ensures.ended refl _ so_far.front so_far.stands)

pub returns-in_default-clause-plant : goal.returns-in_default-clause-plant
returns-in_default-clause-plant g c = ap (λ (input : RunInput). input.plant) (c.step.ensures.input ∙ c.loop.invariant.input)

pub note_line-requires : goal.note_line-requires
note_line-requires g c =
    let so_far = c.loop.invariant.so_far in
    let engine = c.step.new.self.core in
    let stands = c.in-Some.ensures.line _ so_far.front so_far.stands in
    let line = line_in engine c.in-Some.entry in
    let next = next_noted (λ input front. g.N.LineNotes.are_noted input front c.args.notes.now c.loop.notes) _ _ c.loop.engine.core _ so_far engine _ line
    c.plant-in-loop.result.now c.listed.result.now c.in-Some.ensures.input stands c.plant-in-loop.ensures (c.listed.ensures _ _ stands) in (
      c.args.notes.now,
      record { input = input_in engine.input; front = so_far.front; line = line; next = next.0; noted = next.1 },
    )

pub returns-in_err-note_line-clause-cut : goal.returns-in_err-note_line-clause-cut
returns-in_err-note_line-clause-cut g c =
    let so_far = c.loop.invariant.so_far in
    let engine = c.step.new.self.core in
    let stands = c.in-Some.ensures.line _ so_far.front so_far.stands in
    let line = line_in engine c.in-Some.entry in
    let next = next_noted (λ input front. g.N.LineNotes.are_noted input front c.args.notes.now c.loop.notes) _ _ c.loop.engine.core _ so_far engine _ line
    c.plant-in-loop.result.now c.listed.result.now c.in-Some.ensures.input stands c.plant-in-loop.ensures (c.listed.ensures _ _ stands) in
    let failed = err_from_is_err_and c.from_residual.result c.from_residual.ensures.1 in
    rw failed.1 (noted_cut (λ input front. g.N.LineNotes.is_cut input front c.args.notes.now c.note_line.new.self) _ _ engine _ c.args.self.engine.core.input
    (c.in-Some.ensures.input ∙ c.loop.invariant.input) stands
    (c.in_err-note_line.ensures.cut (input_in engine.input) so_far.front line c.args.notes.now next.0 next.1))

pub loop-preserved : goal.loop-preserved
loop-preserved g c =
    let so_far = c.loop.invariant.so_far in
    let engine = c.step.new.self.core in
    let stands = c.in-Some.ensures.line _ so_far.front so_far.stands in
    let line = line_in engine c.in-Some.entry in
    let next = next_noted (λ input front. g.N.LineNotes.are_noted input front c.args.notes.now c.loop.notes) _ _ c.loop.engine.core _ so_far engine _ line
    c.plant-in-loop.result.now c.listed.result.now c.in-Some.ensures.input stands c.plant-in-loop.ensures (c.listed.ensures _ _ stands) in
    record {
      input = c.in-Some.ensures.input ∙ c.loop.invariant.input;
      so_far = record {
        front = _;
        stands = stands;
        long = omega (arith, so_far.long);
        noted = c.in_ok-note_line.ensures.noted (input_in engine.input) so_far.front line c.args.notes.now next.0 next.1;
      };
    }

pub unreachable-requires : goal.unreachable-requires
unreachable-requires g c =
    let so_far = c.loop.invariant.so_far in
    let few = few_lines (input_in c.loop.engine.core.input) _ so_far.stands.at.accepted so_far.front so_far.stands.run.of_run in
    let plant = c.args.self.engine.core.input.plant in
    let most = λ (input : RunInput). bound input.plant (length input.commands.items) * (trains input.plant + 1) in
    let first = λ (plant : Plant). bound plant (length c.commands.result.now) * (trains plant + 1) in
    omega (
      arith,
      few,
      so_far.long,
      c.most_steps-end.ensures,
      ap most c.loop.invariant.input,
      ap first c.plant.ensures,
      ap (λ (commands : List Command). bound plant (length commands) * (trains plant + 1)) c.commands.ensures,
    )
