use Rattle.std.proofs.Common.{◌≡◌, length, true, ap, ◌∙◌}
use Rattle.rail_place.specs.Tables.{moves_in}
use Rattle.rail_forms.specs.Plays.{list_refusal, places_refusal}
use Rattle.rail_forms.specs.Promises.{is_of_bytes}
use Rattle.rail_forms.proofs.Answers.{ended_with}
use Rattle.rail_forms.proofs.Lists.{list_answers, list_unwritten}
use Rattle.rail_forms.proofs.play.play_on_plant.Goals as goal

pub returns-in_err-placed-clause-answer : goal.returns-in_err-placed-clause-answer
returns-in_err-placed-clause-answer g c =
    let same : places_refusal c.names-names.result.now.trains.keys (moves_in c.moves-moves.result.now) (length c.moves-moves.result.now) true c.args.list.now ≡ list_refusal c.args.plant.now true c.args.list.now =
    λ i. places_refusal (c.names-names.ensures.trains i) (c.moves-moves.ensures.moves i) (c.moves-moves.ensures.trains i) true c.args.list.now in
    list_answers _ _ _ _ _ c.in_err-placed.field-0.0 (ended_with c.from_residual.result c.in_err-placed.field-0.0 c.from_residual.ensures.1) same c.in_err-placed.ensures.refused

pub returns-in_err-placed-clause-writes : goal.returns-in_err-placed-clause-writes
returns-in_err-placed-clause-writes g c =
    list_unwritten g.O.Sink _ _ _ c.in_err-placed.field-0.0 (ended_with c.from_residual.result c.in_err-placed.field-0.0 c.from_residual.ensures.1) c.in_err-placed.ensures.refused

pub returns-in_err-placed-clause-of_bytes : goal.returns-in_err-placed-clause-of_bytes
returns-in_err-placed-clause-of_bytes g c =
    ap is_of_bytes (ended_with c.from_residual.result c.in_err-placed.field-0.0 c.from_residual.ensures.1) ∙ c.in_err-placed.ensures.of_bytes
