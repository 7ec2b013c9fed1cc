use Rattle.std.proofs.Common.{arith}
use Rattle.rail_forms.proofs.Summaries.{counts_fit}
use Rattle.rail_forms.proofs.summary.SummaryLineNotes.note_line.Goals as goal

pub overflow_add-self : goal.overflow_add-self
overflow_add-self c = omega (arith, (counts_fit c.args.self.now _ _ _ c.requires.1).2)

pub overflow_add-self-2 : goal.overflow_add-self-2
overflow_add-self-2 c = omega (arith, (counts_fit c.args.self.now _ _ _ c.requires.1).1)

pub overflow_add-self-in-Admit : goal.overflow_add-self-in-Admit
overflow_add-self-in-Admit c = omega (arith, (counts_fit c.args.self.now _ _ _ c.requires.1).0)

pub overflow_add-self-in-Out : goal.overflow_add-self-in-Out
overflow_add-self-in-Out c = omega (arith, (counts_fit c.args.self.now _ _ _ c.requires.1).3)
