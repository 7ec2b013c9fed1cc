use Rattle.std.proofs.Common.{refl}
use Rattle.rail_ledger.specs.declared.ledger.Listed.TheVariants as which
use Rattle.rail_ledger.proofs.Judged.{listed_as}
use Rattle.rail_ledger.proofs.ledger.Ledger.due.Goals as goal

pub hold_due-requires-clause-due : goal.hold_due-requires-clause-due
hold_due-requires-clause-due c = c.in-Hold.ensures.hold c.in-Hold.train refl

pub returns-in-Admission-clause-unchanged : goal.returns-in-Admission-clause-unchanged
returns-in-Admission-clause-unchanged c = λ front at. c.in-Admission.ensures.unchanged front (listed_as front c.args.self.now which.Nothing at)
