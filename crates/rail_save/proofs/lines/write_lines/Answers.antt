use Rattle.std.proofs.Common.{◌++◌, ◌∙◌, refl, arith}
use Rattle.std.proofs.lemmas.Result.{err_from_is_err_and}
use Rattle.rail_save.proofs.WrittenLines.{all_ended, all_written, next_cut, next_writable, next_written, none_written, still_written}
use Rattle.rail_save.proofs.lines.write_lines.Goals as goal

pub loop-init : goal.loop-init
loop-init g c = record {
  input = refl;
  written = λ seats front stands. none_written g.O.Sink seats front _ _ c.args.out.now stands;
  faults = omega arith;
}

pub returns-in_default-clause-written : goal.returns-in_default-clause-written
returns-in_default-clause-written g c = λ seats front stands.
    let so_far = c.loop.invariant.written seats front stands in
    still_written seats front c.args.count _ _ _ _ _ _ (c.in_default.ensures.unchanged refl) (c.in_default.ensures.desk refl)
    (all_ended g.O.Sink seats front c.loop.counter c.args.count _ _ c.args.out.now c.loop.out so_far c.loop-test.true (c.in_default.ensures.ended refl seats (so_far.more ++ front) so_far.stands))

pub write_entry-requires : goal.write_entry-requires
write_entry-requires g c =
    let first = c.requires.somewhere in
    let so_far = c.loop.invariant.written first.seats first.front first.stands in
    let stands = c.in-Some.ensures.line first.seats (so_far.more ++ first.front) so_far.stands in (
      c.plant-plant.result.now,
      record { sections = c.names.ensures.sections; trains = c.names.ensures.trains },
      next_writable g.O.Sink first.seats first.front c.loop.counter _ _ c.args.out.now c.loop.out so_far c.step.new.self.core _ c.in-Some.ensures.input c.in-Some.entry stands
          c.plant-plant.result.now c.plant-plant.ensures c.listed.result.now (c.listed.ensures first.seats _ stands),
    )

pub returns-in_err-write_entry-clause-failed : goal.returns-in_err-write_entry-clause-failed
returns-in_err-write_entry-clause-failed g c =
    let failed = err_from_is_err_and c.from_residual.result c.from_residual.ensures.1 in
    let more = c.in_err-write_entry.ensures.failed_adds_prefix c.plant-plant.result.now (record { sections = c.names.ensures.sections; trains = c.names.ensures.trains }) in
    rw failed.1 (λ seats front first.
    let so_far = c.loop.invariant.written seats front first in
    let stands = c.in-Some.ensures.line seats (so_far.more ++ front) so_far.stands in
    next_cut g.O.Sink seats front c.loop.counter _ _ c.args.out.now c.loop.out so_far c.step.new.self.core _ c.in-Some.ensures.input c.in-Some.entry stands
    c.plant-plant.result.now c.plant-plant.ensures c.listed.result.now (c.listed.ensures seats _ stands) c.write_entry.new.out c.args.count c.loop-test.true more)

pub loop-preserved : goal.loop-preserved
loop-preserved g c = record {
  input = c.in-Some.ensures.input ∙ c.loop.invariant.input;
  written = λ seats front first.
      let so_far = c.loop.invariant.written seats front first in
      let stands = c.in-Some.ensures.line seats (so_far.more ++ front) so_far.stands in
      next_written g.O.Sink seats front c.loop.counter _ _ c.args.out.now c.loop.out so_far c.step.new.self.core _ c.in-Some.ensures.input c.in-Some.entry stands
      c.plant-plant.result.now c.plant-plant.ensures c.listed.result.now (c.listed.ensures seats _ stands) c.write_entry.new.out
      (c.in_ok-write_entry.ensures.adds c.plant-plant.result.now (record { sections = c.names.ensures.sections; trains = c.names.ensures.trains }));
  faults = omega (arith, c.loop.invariant.faults, c.in_ok-write_entry.ensures.faults_never_fall);
}

pub returns-clause-written : goal.returns-clause-written
returns-clause-written g c = λ seats front stands.
    let so_far = c.loop.invariant.written seats front stands in
    all_written g.O.Sink seats front c.loop.counter c.args.count _ _ c.args.out.now c.loop.out so_far (omega (arith, c.loop-test.false))

pub returns-in_err-write_entry-clause-failed_rose : goal.returns-in_err-write_entry-clause-failed_rose
returns-in_err-write_entry-clause-failed_rose g c =
    let failed = err_from_is_err_and c.from_residual.result c.from_residual.ensures.1 in
    rw failed.1 (λ other. let rises = c.in_err-write_entry.ensures.failed_rose other in omega (arith, rises, c.loop.invariant.faults))
