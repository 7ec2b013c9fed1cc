use Rattle.std.proofs.Common.{◌<◌, length, sym}
use Rattle.rail_base.specs.declared.limits.TheConstants.{TRAINS}
use Rattle.rail_scene.proofs.Distinct.{AreTrains-push}
use Rattle.rail_scene.proofs.rosters.Trains.add.Goals as goal

pub invariant_of-self-2 : goal.invariant_of-self-2
invariant_of-self-2 c =
    let few : length c.self.inside.trains < TRAINS = rw c.self.view_is c.requires.few in
    rw c.in_ok-push.ensures.ok (AreTrains-push c.self.inside.trains c.args.train c.self.invariant few c.requires.fit (sym c.if-contains.ensures))
