use Rattle.rail_laws_end.proofs.Barred.{leads_to_barred}
use Rattle.rail_laws_end.proofs.completion.what_remains_waits_for_an_order.Goals as goal

pub returns : goal.returns
returns c = leads_to_barred
