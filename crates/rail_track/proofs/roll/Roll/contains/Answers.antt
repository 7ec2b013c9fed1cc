use Rattle.std.proofs.Common.{ap, ◌∙◌}
use Rattle.std.specs.List.{list_any}
use Rattle.rail_track.proofs.Rolls.{list_any-map}
use Rattle.rail_track.proofs.roll.Roll.contains.Goals as goal

pub returns : goal.returns
returns g c =
    let test = g.K.PartialEq.eq c.args.key.now in
    rw (← c.self.view_is) (c.contains.ensures ∙ ap (list_any test) c.self.invariant ∙ list_any-map test g.T.Keyed.key_of c.self.inside.items.items)
