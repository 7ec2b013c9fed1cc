use Rattle.rail_engine.proofs.Desks.{turned}
use Rattle.rail_engine.proofs.Trying.{picked_from}
use Rattle.rail_engine.proofs.offers.pick.Goals as goal

pub returns-clause-picked : goal.returns-clause-picked
returns-clause-picked g c = picked_from _ _ _ _ _ _ _ c.turn-place.ensures.least c.remove.ensures.value c.remove.ensures.items c.deref.ensures.value

pub returns-clause-desk : goal.returns-clause-desk
returns-clause-desk g c = λ ledger seats front at desk. turned _ seats front _ _ _ _ c.turn-place.ensures.table desk
