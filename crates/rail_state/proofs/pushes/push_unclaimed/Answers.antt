use Rattle.std.proofs.Common.{ℕ, ◌+◌, Bool, not, drop, count_by, ap, arith}
use Rattle.std.specs.List.{filter}
use Rattle.rail_rules.specs.Numbers.{is_in}
use Rattle.rail_state.specs.Events.{free_events}
use Rattle.rail_state.proofs.FreeEvents.{push_step}
use Rattle.rail_state.proofs.GivenMoves.{first_of_rest}
use Rattle.rail_state.proofs.pushes.push_unclaimed.Goals as goal

pub loop-section-preserved : goal.loop-section-preserved
loop-section-preserved c = record {
  counted = λ q.
      let xs = c.args.sections.now in
      let i = c.loop-section.section-index in
      let x = c.section-item.result in
      let claims : ℕ → Bool = λ y. is_in y c.args.claimed.now in
      omega (
        arith,
        c.loop-section.invariant.counted q,
        c.push_if_unclaimed.ensures.counted q,
        ap (λ ys. count_by q (free_events c.args.at c.args.train (filter (λ y. not (claims y)) ys))) (first_of_rest xs i x c.loop-section-test.true c.section-item.is),
        push_step q c.args.at c.args.train claims x (drop (i + 1) xs),
      );
  room = omega (arith, c.loop-section.invariant.room, c.push_if_unclaimed.ensures.room);
  spare = omega (arith, c.loop-section.invariant.spare, c.push_if_unclaimed.ensures.spare);
}
