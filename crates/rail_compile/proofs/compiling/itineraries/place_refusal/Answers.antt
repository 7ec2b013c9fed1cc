use Rattle.std.proofs.Common.{sym, ◌∙◌, arith}
use Rattle.std.proofs.lemmas.List.{length-map}
use Rattle.rail_compile.specs.Ways.{route_at, routes_at}
use Rattle.rail_compile.proofs.Places.{places_done}
use Rattle.rail_compile.proofs.compiling.itineraries.place_refusal.Goals as goal

pub returns : goal.returns
returns c =
    let net = c.args.network.now in
    let routes = routes_at net c.args.numbers.now in
    sym (places_done net c.args.item routes c.loop-place.place c.loop-place.auto.place (omega (arith, c.loop-place-test.false, length-map c.args.numbers.now (route_at net)))) ∙ c.loop-place.invariant
