use Rattle.rail_list.proofs.Appending.{completing_fits}
use Rattle.rail_list.proofs.laws.a_completing_list_fits.Goals as goal

pub returns : goal.returns
returns c = completing_fits
