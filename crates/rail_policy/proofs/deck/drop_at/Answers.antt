use Rattle.std.proofs.Common.{ap, map, ◌∙◌}
use Rattle.rail_policy.proofs.Decks.{map-remove}
use Rattle.rail_policy.proofs.deck.drop_at.Goals as goal

pub returns-clause-seats : goal.returns-clause-seats
returns-clause-seats g c = ap (map g.P.Policy.seat) c.remove.ensures.items ∙ map-remove g.P.Policy.seat _ _
