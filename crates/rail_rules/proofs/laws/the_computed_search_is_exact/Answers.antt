use Rattle.rail_rules.proofs.Found.{finds_exactly}
use Rattle.rail_rules.proofs.laws.the_computed_search_is_exact.Goals as goal

pub returns : goal.returns
returns c = finds_exactly
