use Rattle.rail_policy.specs.Seats.{asked}
use Rattle.rail_policy.proofs.Decks.{map-changed}
use Rattle.rail_policy.proofs.deck.ask.Goals as goal

pub returns-clause-seats : goal.returns-clause-seats
returns-clause-seats g c =
    map-changed g.P.Policy.seat (λ seat. asked seat c.choose.result) _ _ _ _ c.requires.index c.choose.ensures.seat
