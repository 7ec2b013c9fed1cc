use Rattle.std.proofs.Common.{◌∙◌, refl}
use Rattle.rail_base.proofs.CallerLemmas.{passed_up}
use Rattle.rail_check.specs.Checkers.{KeepsUp, Refuses}
use Rattle.rail_check.proofs.Following.{with_none}
use Rattle.rail_check.proofs.checker.Checker.follow.Goals as goal

pub loop-alloc-preserved : goal.loop-alloc-preserved
loop-alloc-preserved c =
    let inv = c.loop-alloc.invariant in
    let given = c.in_ok-verdict.ensures in
    let next = with_none (KeepsUp c.loop-alloc.self c.loop-alloc.file c.follow_line.new.self c.follow_line.new.file) c.in_ok-verdict.field-0 c.in_default.is given.followed in
    record {
      following = record { input = inv.following.input; bytes = inv.following.bytes; is = next inv.following.input inv.following.bytes inv.following.is };
      reading = given.reading;
      input = given.input ∙ inv.input;
      keeps = λ input bytes so_far. next input bytes (inv.keeps input bytes so_far);
    }

pub returns-clause-ended : goal.returns-clause-ended
returns-clause-ended c = λ input bytes so_far.
    let now = c.loop-alloc.invariant.keeps input bytes so_far in
    record { lines = now.lines; is_history = c.loop-alloc-test.ensures.whole refl input.plant bytes now.lines now.read; checked = now.checked }

pub returns-in_err-verdict-clause-refused : goal.returns-in_err-verdict-clause-refused
returns-in_err-verdict-clause-refused c =
    passed_up c.from_residual.result c.in_err-verdict.field-0.0 (Refuses c.args.self.now c.args.file.now) c.from_residual.ensures.1
    (λ input bytes so_far. c.in_err-verdict.ensures.refused input bytes (c.loop-alloc.invariant.keeps input bytes so_far))
