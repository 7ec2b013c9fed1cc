use Rattle.std.proofs.Common.{ap, ◌∙◌, arith}
use Rattle.rail_rules.specs.Moves.{Moves, stand}
use Rattle.rail_block.proofs.moves.KnownMove.stand.Goals as goal

pub stand-requires-clause-last : goal.stand-requires-clause-last
stand-requires-clause-last c = omega (arith, c.args.self.now.last, ap (λ (table : Moves). table.moves c.args.self.now.train) c.moves.ensures.moves)

pub returns : goal.returns
returns c = c.stand.ensures.sections ∙ ap (λ (table : Moves). stand table c.args.self.now.train c.args.self.now.place) c.moves.ensures.moves
