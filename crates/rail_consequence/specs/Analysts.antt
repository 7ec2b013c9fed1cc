-- What lasts of an analyst that has lent its list.
use Rattle.std.specs.Borrow.{MutBor, Fml}
use Rattle.std.specs.Io.BufRead.{Rests}
use Rattle.rail_rules.specs.Moves.{Moves}
use Rattle.rail_consequence.specs.AnalystStates.{Tallied, IsAnalystFor}
use Rattle.rail_consequence.specs.contracts.analyst.Analyst.{the_row}

-- it is one for the moves once the list is given back
abbrev pub StaysFor : MutBor Tallied → Moves → Fml
StaysFor analyst plan = Rests the_row analyst (IsAnalystFor plan)
