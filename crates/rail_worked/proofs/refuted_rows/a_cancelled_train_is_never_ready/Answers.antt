use Rattle.std.proofs.Common.{refl}
use Rattle.rail_worked.proofs.refuted_rows.a_cancelled_train_is_never_ready.Goals as goal

pub returns-clause-lawful : goal.returns-clause-lawful
returns-clause-lawful c = refl

pub returns-clause-wrong : goal.returns-clause-wrong
returns-clause-wrong c = refl

pub returns-clause-whole : goal.returns-clause-whole
returns-clause-whole c = refl
