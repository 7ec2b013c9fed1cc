use Rattle.std.proofs.Common.{◌≡◌, ◌+◌, ◌||◌, drop}
use Rattle.rail_base.specs.declared.refusals.Reason.TheVariants.{JointCrowded}
use Rattle.rail_track.specs.SectionRules.{joint_tests, stands_twice}
use Rattle.rail_base.specs.FirstRefusals.{first_failing, tests_over}
use Rattle.rail_track.specs.NetFaults.{refused_where}
use Rattle.rail_track.proofs.accepting.joint_refusal.Given as goal

abbrev pub invariant-loop-index : goal.invariant-loop-index
invariant-loop-index g l =
    first_failing (tests_over (λ step joint. refused_where JointCrowded step (stands_twice l.joints joint || g.J.ClosedJoints.is_closed l.rule joint)) (l.index + 1) (drop l.index l.joints))
    ≡ first_failing (joint_tests (g.J.ClosedJoints.is_closed l.rule) l.joints)
