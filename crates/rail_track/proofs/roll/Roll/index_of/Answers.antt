use Rattle.std.proofs.Common.{◌∙◌}
use Rattle.rail_track.proofs.Rolls.{position_of_key}
use Rattle.rail_track.proofs.roll.Roll.index_of.Goals as goal

pub returns : goal.returns
returns g c =
    let test = g.K.PartialEq.eq c.args.key.now in
    rw (← c.self.view_is) (c.get_index_of.ensures.index ∙ position_of_key test g.T.Keyed.key_of c.self.inside.keys.keys c.self.inside.items.items c.self.invariant)
