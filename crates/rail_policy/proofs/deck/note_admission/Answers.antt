use Rattle.rail_policy.specs.Seats.{noted}
use Rattle.rail_policy.proofs.Decks.{map-changed}
use Rattle.rail_policy.proofs.deck.note_admission.Goals as goal

pub returns : goal.returns
returns g c = map-changed g.P.Policy.seat (λ seat. noted seat c.args.admitted) _ _ _ _ c.requires c.note.ensures
