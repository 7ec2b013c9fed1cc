use Rattle.std.proofs.Common.{refl}
use Rattle.std.specs.Fmt.{digits}
use Rattle.rail_worked.proofs.overlap_row.an_overlap_taken_over.Goals as goal

pub returns-clause-accepted : goal.returns-clause-accepted
returns-clause-accepted c = refl

pub returns-clause-lawful : goal.returns-clause-lawful
returns-clause-lawful c = refl

pub returns-clause-run : goal.returns-clause-run
returns-clause-run c = refl

pub returns-clause-bounded : goal.returns-clause-bounded
returns-clause-bounded c = refl

pub returns-clause-text : goal.returns-clause-text
unfolding digits
returns-clause-text c = refl

pub returns-clause-changed : goal.returns-clause-changed
returns-clause-changed c = refl

pub returns-clause-dropped : goal.returns-clause-dropped
returns-clause-dropped c = refl

pub returns-clause-doubled : goal.returns-clause-doubled
returns-clause-doubled c = refl
