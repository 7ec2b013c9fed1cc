use Rattle.std.proofs.Common.{length, replicate, ap, ◌∙◌}
use Rattle.std.proofs.lemmas.List.{length-replicate}
use Rattle.rail_delay.specs.declared.account.Account.{Account}
use Rattle.rail_delay.specs.Reports.{no_account}
use Rattle.rail_delay.proofs.Noted.{noted_first}
use Rattle.rail_delay.proofs.delays.Delays.new.Goals as goal

pub returns-clause-noted : goal.returns-clause-noted
returns-clause-noted c = noted_first c.args.plant.now c.args.commands.now _
    (c.in_ok-accounts.ensures ∙ ap (λ n. replicate n no_account) (c.from.ensures ∙ c.trains.ensures.count ∙ c.moves.ensures.trains))
    (c.in_ok-visits.ensures) (c.in_ok-cancels.ensures)

pub returns-clause-made : goal.returns-clause-made
returns-clause-made c = ap (length {A = Account}) c.in_ok-accounts.ensures ∙ length-replicate c.from.result no_account ∙ c.from.ensures ∙ c.trains.ensures.count ∙ c.moves.ensures.trains
