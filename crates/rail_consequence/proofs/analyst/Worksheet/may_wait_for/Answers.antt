use Rattle.std.proofs.Common.{◌≡◌, None, Some, sym, ◌∙◌, ⊎_elim}
use Rattle.std.proofs.lemmas.Bool.{eq-eqb, false≢true}
use Rattle.std.proofs.lemmas.Option.{none-some, same_Some}
use Rattle.rail_consequence.proofs.analyst.Worksheet.may_wait_for.Goals as goal

pub returns-in-Some : goal.returns-in-Some
returns-in-Some c = λ other may.
    ⊎_elim
    (λ none. none-some c.in-Some.holder (c.awaited.ensures.exact None none ∙ c.in-Some.is))
    (λ waits.
    let same : c.args.train ≡ c.in-Some.holder = same_Some c.args.train c.in-Some.holder (c.awaited.ensures.exact (Some c.args.train) waits ∙ c.in-Some.is) in
    false≢true (sym other ∙ c.eq.ensures ∙ eq-eqb c.in-Some.holder c.args.train (sym same)))
    may
