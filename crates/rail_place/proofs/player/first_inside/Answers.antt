use Rattle.std.proofs.Common.{◌≡◌, true, length, sym, arith}
use Rattle.std.proofs.lemmas.Bool.{and_from, lt-ltb}
use Rattle.std.proofs.Common.{ltb}
use Rattle.rail_rules.specs.Moves.{Moves}
use Rattle.rail_rules.specs.Places.{place_of, is_inside}
use Rattle.rail_place.specs.Tables.{moves_in}
use Rattle.rail_place.proofs.Firsts.{first_below_at, first_below_nothing}
use Rattle.rail_place.proofs.Making.{made_long}
use Rattle.rail_place.proofs.player.first_inside.Goals as goal

pub returns-then-place-places : goal.returns-then-place-places
returns-then-place-places c =
    let plan : Moves = moves_in c.args.moves.now in
    let s = c.args.places.now.positions in
    let t = c.loop-number.number in
    let inside : is_inside plan s t ≡ true = and_from (ltb 0 (place_of s t)) (ltb (place_of s t) (plan.moves t)) (lt-ltb 0 (place_of s t) (omega arith)) (lt-ltb (place_of s t) (plan.moves t) (omega arith)) in
    sym (first_below_at (is_inside plan s) (length s) t (omega (arith, made_long c.args.moves.now c.args.places.now c.requires)) inside c.loop-number.invariant)

pub returns : goal.returns
returns c =
    let s = c.args.places.now.positions in
    sym (first_below_nothing (is_inside (moves_in c.args.moves.now) s) (length s) (λ u lt. c.loop-number.invariant u (omega (arith, made_long c.args.moves.now c.args.places.now c.requires))))
