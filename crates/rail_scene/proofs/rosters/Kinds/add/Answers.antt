use Rattle.std.proofs.Common.{◌<◌, length, sym}
use Rattle.rail_base.specs.declared.limits.TheConstants.{KINDS}
use Rattle.rail_scene.proofs.Distinct.{AreKinds-push}
use Rattle.rail_scene.proofs.rosters.Kinds.add.Goals as goal

pub invariant_of-self-2 : goal.invariant_of-self-2
invariant_of-self-2 c =
    let few : length c.self.inside.kinds < KINDS = rw c.self.view_is c.requires.few in
    rw c.in_ok-push.ensures.ok (AreKinds-push c.self.inside.kinds c.args.kind c.self.invariant few c.requires.fit (sym c.if-contains.ensures))
