use Rattle.std.proofs.Common.{◌≡◌, ℕ, ◌<◌, List, length, sym, ap, ◌∙◌, subst, arith}
use Rattle.std.proofs.lemmas.List.{length-map}
use Rattle.std.proofs.lemmas.Result.{IfOk-weaker}
use Rattle.rail_base.specs.declared.plant.Tables.{Tables}
use Rattle.rail_rules.specs.Moves.{Moves}
use Rattle.rail_rules.specs.Plant.{moves_of}
use Rattle.rail_place.specs.Tables.{MoveLists}
use Rattle.rail_compile.specs.Itineraries.{plant_of_scene, tables_of, train_row}
use Rattle.rail_reroute.specs.Judgements.{IsJudged, LeadsTo, rerouted}
use Rattle.rail_reroute.specs.Judges.{IsOfTables, moves_with}
use Rattle.rail_reroute.proofs.Judging.{judged_found, judged_refused, small_place}
use Rattle.rail_reroute.proofs.Proposed.{within_still}
use Rattle.rail_plan.specs.MoveTables.{spelled}
use Rattle.rail_plan.specs.PlanFaults.{bare}
use Rattle.rail_reroute.proofs.judges.Judge.judge_rerouted.Goals as goal

pub judge_moves-requires-clause-own : goal.judge_moves-requires-clause-own
judge_moves-requires-clause-own c =
    let P : Tables → Type 0 = λ tables. IsOfTables tables c.args.self.now in
    subst P (sym c.requires.own.tables) c.requires.own.own

pub judge_moves-requires-clause-train : goal.judge_moves-requires-clause-train
judge_moves-requires-clause-train c =
    let scene = c.args.scene.now in
    omega (arith, c.requires.proposed.train, ap length c.requires.own.own.moves, length-map (tables_of scene).trains (spelled (bare (tables_of scene))), length-map scene.trains (train_row scene))

pub judge_moves-requires-clause-long : goal.judge_moves-requires-clause-long
judge_moves-requires-clause-long c =
    let scene = c.args.scene.now in
    omega (arith, c.requires.proposed.long, ap length c.requires.own.own.moves, length-map (tables_of scene).trains (spelled (bare (tables_of scene))), length-map scene.trains (train_row scene))

pub judge_moves-requires-clause-within : goal.judge_moves-requires-clause-within
judge_moves-requires-clause-within c = λ u lt.
    let scene = c.args.scene.now in
    let s : List ℕ = c.args.positions.now in
    let t = c.args.train in
    let routes = c.args.routes.now in
    let h = c.requires.proposed in
    let row : List MoveLists = c.in-Ok.moves in
    let plan : moves_with c.args.self.now.moves t row ≡ moves_of (plant_of_scene (rerouted scene s t routes)) =
    ap (λ (table : List MoveLists). moves_with table t row) c.requires.own.own.moves ∙ c.in-Ok.ensures.moves.moves in
    let listed : u < length scene.trains =
    omega (arith, lt, ap length c.requires.own.own.moves, length-map (tables_of scene).trains (spelled (bare (tables_of scene))), length-map scene.trains (train_row scene)) in
    omega (arith, within_still scene s t routes h u listed, ap (λ (moves : Moves). moves.moves u) plan)

pub returns-in-Ok-clause-answer : goal.returns-in-Ok-clause-answer
returns-in-Ok-clause-answer c =
    let scene = c.args.scene.now in
    let s : List ℕ = c.args.positions.now in
    let t = c.args.train in
    let routes = c.args.routes.now in
    let h = c.requires.proposed in
    let row : List MoveLists = c.in-Ok.moves in
    let plan : moves_with c.args.self.now.moves t row ≡ moves_of (plant_of_scene (rerouted scene s t routes)) =
    ap (λ (table : List MoveLists). moves_with table t row) c.requires.own.own.moves ∙ c.in-Ok.ensures.moves.moves in
    let depth : c.args.self.now.tables.depth ≡ scene.depth = ap (λ (tables : Tables). tables.depth) c.requires.own.tables in
    IfOk-weaker c.judge_moves.result (LeadsTo (moves_with c.args.self.now.moves t row) c.args.self.now.tables.depth s) (IsJudged scene s t routes)
    (λ answer found. judged_found scene s t routes h c.in-Ok.ensures.accepted answer (subst (λ (given : Moves × ℕ). LeadsTo given.0 given.1 s answer) (λ i. (plan i, depth i)) found))
    c.judge_moves.ensures.answer

pub refused_for-requires : goal.refused_for-requires
refused_for-requires c = small_place c.args.scene.now c.args.positions.now c.args.train c.args.routes.now c.requires.proposed c.in-Err.fault c.in-Err.ensures.refused

pub returns-in-Err-clause-answer : goal.returns-in-Err-clause-answer
returns-in-Err-clause-answer c =
    judged_refused c.args.scene.now c.args.positions.now c.args.train c.args.routes.now c.requires.proposed c.in-Err.fault c.refused_for.result c.in-Err.ensures.refused c.refused_for.ensures
