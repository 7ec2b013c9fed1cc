use Rattle.std.proofs.Common.{◌<◌, List, length, arith}
use Rattle.rail_rules.proofs.CallerLemmas.{state_parts}
use Rattle.rail_place.specs.PlaceStates.{State}
use Rattle.rail_place.specs.Tables.{MoveLists, moves_in}
use Rattle.rail_place.proofs.CallerLemmas.{made_long}
use Rattle.rail_cores.proofs.Cleared.{alone_apart}
use Rattle.rail_cores.proofs.alone.stand_alone.Goals as goal

pub put-requires-clause-within : goal.put-requires-clause-within
put-requires-clause-within c =
    let table : List MoveLists = c.args.moves.now in
    let s : State = c.args.from.now in
    let listed : c.loop-number.number < length s.positions = omega (arith, c.loop-number-test.true, made_long table s c.requires.from, c.trains-number-end.ensures.count) in
    omega (arith, (state_parts (moves_in table) s.positions c.requires.from.valid).within c.loop-number.number listed, c.position-place.ensures)

pub put-requires-clause-free : goal.put-requires-clause-free
put-requires-clause-free c = λ u ne.
    let table : List MoveLists = c.args.moves.now in
    let s : State = c.args.from.now in
    let listed : c.loop-number.number < length s.positions = omega (arith, c.loop-number-test.true, made_long table s c.requires.from, c.trains-number-end.ensures.count) in
    alone_apart (moves_in table) s.positions c.loop-number.to.positions c.args.trains.now c.loop-number.number u c.position-place.result c.requires.from.valid listed ne c.loop-number.invariant.alone c.position-place.ensures
