-- The searcher.
use Rattle.rail_rules.specs.Moves.{Moves}
use Rattle.rail_consequence.specs.AnalystStates.{IsAnalystFor}
use Rattle.rail_cores.specs.Alones.{IsAloneFor}
use Rattle.rail_cores.specs.declared.searcher.Searcher.{Searcher}

-- what searches among all trains and what searches among some belong to the moves
pub record IsSearcherFor (plan : Moves) (searcher : Searcher) : Type 0 where
  pub analyst : IsAnalystFor plan searcher.analyst
  pub alone : IsAloneFor plan searcher.alone
