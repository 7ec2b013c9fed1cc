use Rattle.std.proofs.Common.{ap, ◌∙◌}
use Rattle.rail_rules.specs.Moves.{Moves}
use Rattle.rail_block.proofs.moves.KnownMove.last_place.Goals as goal

pub returns : goal.returns
returns c = c.places.ensures ∙ ap (λ (table : Moves). table.moves c.args.self.now.train) c.moves.ensures.moves
