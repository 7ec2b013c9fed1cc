use Rattle.std.proofs.Common.{arith}
use Rattle.rail_rules.proofs.CallerLemmas.{state_parts}
use Rattle.rail_place.specs.Tables.{moves_in}
use Rattle.rail_consequence.proofs.analyst.playing.taken_by_all.Goals as goal

pub stand-requires-clause-within : goal.stand-requires-clause-within
stand-requires-clause-within g c =
    let parts = state_parts (moves_in c.args.moves.now) c.args.positions.now c.requires.state in
    omega (arith, parts.within c.loop-number.number c.loop-number-test.true)
