use Rattle.std.proofs.Common.{refl, sym, ap, ◌∙◌, ⊎_elim}
use Rattle.std.proofs.lemmas.Option.{none-some}
use Rattle.rail_queue.specs.Order.{first_time_of}
use Rattle.rail_ledger.proofs.ledger.Ledger.is_next.Goals as goal

pub returns-in-Some-clause-exact : goal.returns-in-Some-clause-exact
returns-in-Some-clause-exact c = (_, c.says.ensures.next, c.is_line.ensures)

pub is_end-requires-clause-settled : goal.is_end-requires-clause-settled
is_end-requires-clause-settled c =
    ⊎_elim
    (λ settled. settled)
    (λ due. absurd (none-some _ (sym (ap first_time_of (c.in-None.ensures.none.0 refl)) ∙ due)))
    c.requires.may
