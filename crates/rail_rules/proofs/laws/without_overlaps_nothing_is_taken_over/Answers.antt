use Rattle.rail_rules.proofs.Claiming.{claims_needed, lines_without, taken_without, ends_without, bars_without}
use Rattle.rail_rules.proofs.laws.without_overlaps_nothing_is_taken_over.Goals as goal

pub returns-clause-claims : goal.returns-clause-claims
returns-clause-claims c = claims_needed

pub returns-clause-lines : goal.returns-clause-lines
returns-clause-lines c = lines_without

pub returns-clause-taken : goal.returns-clause-taken
returns-clause-taken c = taken_without

pub returns-clause-ends : goal.returns-clause-ends
returns-clause-ends c = ends_without

pub returns-clause-bars : goal.returns-clause-bars
returns-clause-bars c = bars_without
