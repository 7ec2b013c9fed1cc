use Rattle.std.proofs.Common.{ap, not, sym, ◌∙◌}
use Rattle.rail_base.specs.declared.history.Note.{Note}
use Rattle.rail_rules.specs.RunHistories.{repairs_first}
use Rattle.rail_ledger.specs.Inputs.{input_in}
use Rattle.rail_ledger.proofs.CallerLemmas.{next_unbarred}
use Rattle.rail_engine.proofs.followed_lines.repairs_first.Goals as goal

pub is_repairable-requires-clause-next : goal.is_repairable-requires-clause-next
is_repairable-requires-clause-next c =
    next_unbarred c.args.ledger.now c.args.train c.requires.train c.requires.untried (c.requires.unbarred c.args.train c.requires.train c.requires.untried)

pub returns-in-Fresh-clause-exact : goal.returns-in-Fresh-clause-exact
returns-in-Fresh-clause-exact c = λ front at.
    ap not (c.is_repairable.ensures.exact front at) ∙ ap (λ (note : Note). repairs_first (input_in c.args.ledger.now.input) front c.args.train note) (sym c.in-Fresh.is)

pub returns-in-Pulled-clause-exact : goal.returns-in-Pulled-clause-exact
returns-in-Pulled-clause-exact c = λ front at. ap (λ (note : Note). repairs_first (input_in c.args.ledger.now.input) front c.args.train note) (sym c.in-Pulled.is)

pub returns-in-Appended-clause-exact : goal.returns-in-Appended-clause-exact
returns-in-Appended-clause-exact c = λ front at. ap (λ (note : Note). repairs_first (input_in c.args.ledger.now.input) front c.args.train note) (sym c.in-Appended.is)
