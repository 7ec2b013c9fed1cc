use Rattle.std.proofs.Common.{◌∙◌}
use Rattle.rail_track.proofs.Rolls.{pushed_keys}
use Rattle.rail_track.proofs.roll.Roll.push.Goals as goal

pub invariant_of-self-2 : goal.invariant_of-self-2
invariant_of-self-2 g c =
    rw (c.push_reserved.ensures.items, c.reserve.ensures.items)
    (c.in_ok-insert.ensures.keys ∙ pushed_keys g.K.PartialEq.eq g.T.Keyed.key_of c.self.inside.keys.keys c.self.inside.items.items c.self.invariant c.args.item c.key.result c.key.ensures (rw c.self.view_is c.requires))
