use Rattle.std.proofs.Common.{◌∙◌, ap}
use Rattle.rail_rules.specs.Moves.{Moves}
use Rattle.rail_timetable.proofs.rows.last_place.Goals as goal

pub returns-clause-last : goal.returns-clause-last
returns-clause-last c = c.places.ensures ∙ ap (λ (all : Moves). all.moves c.args.train) c.moves.ensures.moves
