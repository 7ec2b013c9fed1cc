use Rattle.std.proofs.Common.{sym, ◌∙◌}
use Rattle.rail_place.proofs.Joining.{joined_empty}
use Rattle.rail_place.proofs.claims.claims_of.Goals as goal

pub returns-then-are_empty : goal.returns-then-are_empty
returns-then-are_empty c = sym (joined_empty c.args.need c.args.over.now (sym c.are_empty.ensures ∙ c.if-are_empty.true))
