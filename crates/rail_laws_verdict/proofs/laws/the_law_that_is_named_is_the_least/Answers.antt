use Rattle.rail_laws_verdict.proofs.Broken.{numbered}
use Rattle.rail_laws_verdict.proofs.laws.the_law_that_is_named_is_the_least.Goals as goal

pub returns : goal.returns
returns c = numbered
