use Rattle.std.proofs.Common.{ℕ, List, Bool, ◌||◌, ◌+◌, sym, ◌∙◌}
use Rattle.rail_base.specs.declared.refusals.Reason.TheVariants.{JointCrowded}
use Rattle.rail_track.specs.SectionRules.{stands_twice}
use Rattle.rail_track.proofs.Refusals.{refused_at, passed_at}
use Rattle.rail_track.proofs.accepting.joint_refusal.Goals as goal

pub returns-then-is_crowded : goal.returns-then-is_crowded
returns-then-is_crowded g c =
    let joints = c.args.joints.now in
    let fails : ℕ → List ℕ → Bool = λ _ joint. stands_twice joints joint || g.J.ClosedJoints.is_closed c.args.rule.now joint in
    let i = c.loop-index.index in
    sym (refused_at JointCrowded fails joints (i + 1) i c.index-joints-index.result c.loop-index-test.true c.index-joints-index.is (sym c.if-is_crowded.ensures)) ∙ c.loop-index.invariant

pub loop-index-preserved : goal.loop-index-preserved
loop-index-preserved g c =
    let joints = c.args.joints.now in
    let fails : ℕ → List ℕ → Bool = λ _ joint. stands_twice joints joint || g.J.ClosedJoints.is_closed c.args.rule.now joint in
    let i = c.loop-index.index in
    sym (passed_at JointCrowded fails joints (i + 1) i c.index-joints-index.result c.loop-index-test.true c.index-joints-index.is (sym c.if-is_crowded.ensures)) ∙ c.loop-index.invariant
