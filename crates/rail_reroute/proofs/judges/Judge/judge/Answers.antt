use Rattle.std.proofs.Common.{◌≡◌, ◌<◌, get_or, length, ap, ◌∙◌, arith}
use Rattle.std.proofs.lemmas.List.{length-map}
use Rattle.rail_base.specs.declared.plant.Tables.{Tables}
use Rattle.rail_rules.specs.Moves.{Moves}
use Rattle.rail_rules.specs.Places.{place_of}
use Rattle.rail_rules.specs.Plant.{moves_of}
use Rattle.rail_place.specs.Tables.{moves_in}
use Rattle.rail_plan.specs.MoveTables.{spelled}
use Rattle.rail_plan.specs.PlanFaults.{bare}
use Rattle.rail_plan.proofs.CallerLemmas.{moves_spelled}
use Rattle.rail_compile.specs.Itineraries.{tables_of, train_row}
use Rattle.rail_reroute.proofs.Proposed.{place_few}
use Rattle.rail_reroute.proofs.judges.Judge.judge.Goals as goal

pub is_too_many-requires : goal.is_too_many-requires
is_too_many-requires c =
    let s = c.args.positions.now in
    let at : c.from.result ≡ c.args.train = c.from.ensures ∙ c.train.view_is in
    omega (arith, ap (λ k. get_or s k 0) at, place_few c.args.scene.now c.args.train (place_of s c.args.train) c.requires.kept c.requires.train (c.requires.within c.args.train c.requires.train))

pub stand_at-requires-clause-within : goal.stand_at-requires-clause-within
stand_at-requires-clause-within c = λ u lt.
    let scene = c.args.scene.now in
    let tables : Tables = tables_of scene in
    let own = c.requires.own.own in
    let few : u < length scene.trains = omega (arith, lt, ap length own.moves, length-map tables.trains (spelled (bare tables)), length-map scene.trains (train_row scene)) in
    let plan : moves_in c.args.self.now.moves ≡ moves_of (bare tables) = ap moves_in own.moves ∙ moves_spelled (bare tables) in
    omega (arith, c.requires.within u few, ap (λ (given : Moves). given.moves u) plan)
