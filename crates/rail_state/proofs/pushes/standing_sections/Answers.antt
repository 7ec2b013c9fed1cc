use Rattle.std.proofs.Common.{ap, arith}
use Rattle.rail_rules.specs.Moves.{Moves}
use Rattle.rail_state.proofs.pushes.standing_sections.Goals as goal

pub stand-requires-clause-last : goal.stand-requires-clause-last
stand-requires-clause-last c = omega (arith, c.args.known.now.last, ap (λ (table : Moves). table.moves c.args.known.now.train) c.moves.ensures.moves)
