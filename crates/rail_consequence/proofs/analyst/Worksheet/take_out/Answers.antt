use Rattle.std.proofs.Common.{◌-◌, arith}
use Rattle.rail_rules.specs.Moves.{Moves}
use Rattle.rail_rules.specs.Places.{place_of}
use Rattle.rail_place.specs.Tables.{moves_in}
use Rattle.rail_consequence.proofs.Legs.{inside_listed, inside_parts}
use Rattle.rail_consequence.proofs.Played.{moves_left_at}
use Rattle.rail_consequence.proofs.analyst.Worksheet.take_out.Goals as goal

pub put-requires-clause-few : goal.put-requires-clause-few
put-requires-clause-few g c =
    let plan : Moves = moves_in c.args.moves.now in
    let a = c.args.self.now in
    let s = a.places.positions in
    let t = c.args.train in
    let high = (inside_parts plan s t c.requires.inside).1 in
    let fewer = moves_left_at plan s t c.places.result (plan.moves t - place_of s t) (inside_listed plan s t c.requires.inside) (omega (arith, high, c.places.ensures)) (omega (arith, c.places.ensures)) in
    omega (arith, c.requires.ready.few, fewer)
