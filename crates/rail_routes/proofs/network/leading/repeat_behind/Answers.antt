use Rattle.std.proofs.Common.{◌≡◌, ◌+◌, ◌++◌, true, false, length, drop, ap, sym, ◌∙◌, arith}
use Rattle.rail_base.specs.FirstRefusals.{first_failing, tests_over}
use Rattle.rail_base.specs.declared.refusals.Reason.TheVariants.{RouteRepeat}
use Rattle.rail_track.specs.NetFaults.{refused_where}
use Rattle.rail_track.proofs.CallerLemmas.{refused_at, passed_at}
use Rattle.rail_routes.specs.RouteRules.{occurred}
use Rattle.rail_routes.proofs.Leading.{occurred_behind}
use Rattle.rail_routes.proofs.network.leading.repeat_behind.Goals as goal

pub returns-then-has_occurred : goal.returns-then-has_occurred
returns-then-has_occurred c =
    let first = c.args.first.now in
    let steps = c.args.steps.now in
    let i = c.loop-index.index in
    let step = c.index-steps-index.result in
    let found : occurred (first ++ steps) (length first + i + 1) step ≡ true = occurred_behind first steps i step ∙ sym c.if-has_occurred.ensures in
    sym (refused_at RouteRepeat (occurred (first ++ steps)) steps (length first + i + 1) i step c.loop-index-test.true c.index-steps-index.is found) ∙ c.loop-index.invariant

pub loop-index-preserved : goal.loop-index-preserved
loop-index-preserved c =
    let first = c.args.first.now in
    let steps = c.args.steps.now in
    let i = c.loop-index.index in
    let step = c.index-steps-index.result in
    let fresh : occurred (first ++ steps) (length first + i + 1) step ≡ false = occurred_behind first steps i step ∙ sym c.if-has_occurred.ensures in
    let next : length first + (i + 1) + 1 ≡ length first + i + 1 + 1 = omega arith in
    ap (λ m. first_failing (tests_over (λ n s. refused_where RouteRepeat n (occurred (first ++ steps) n s)) m (drop (i + 1) steps))) next
    ∙ sym (passed_at RouteRepeat (occurred (first ++ steps)) steps (length first + i + 1) i step c.loop-index-test.true c.index-steps-index.is fresh)
    ∙ c.loop-index.invariant
