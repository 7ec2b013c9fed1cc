use Rattle.std.proofs.Common.{◌-◌}
use Rattle.rail_place.proofs.Tables.{claim_range}
use Rattle.rail_place.proofs.moves.Moves.claim.Goals as goal

pub returns-clause-in_range : goal.returns-clause-in_range
returns-clause-in_range c =
    λ x stands. claim_range c.args.self.now c.args.train (c.from.result - 1) c.row.result.now c.at.result.now c.row.ensures.table c.row.ensures.lists c.at.ensures x stands
