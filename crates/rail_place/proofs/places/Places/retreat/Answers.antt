use Rattle.std.proofs.Common.{arith}
use Rattle.rail_place.proofs.Making.{made_within}
use Rattle.rail_place.proofs.places.Places.retreat.Goals as goal

pub put-requires-clause-within : goal.put-requires-clause-within
put-requires-clause-within c = omega (arith, c.position-place.ensures, made_within c.args.moves.now c.args.self.now c.args.train c.requires.made)
