use Rattle.std.proofs.Common.{◌≡◌, true, sym, ap, ◌∙◌}
use Rattle.rail_state.specs.TrainStates.{is_untried}
use Rattle.rail_ledger.proofs.CallerLemmas.{next_unbarred}
use Rattle.rail_engine.proofs.Trying.{tried_before, tried_now}
use Rattle.rail_engine.proofs.attempt.attempt.Goals as goal

pub returns-then-not-is_untried-clause-none : goal.returns-then-not-is_untried-clause-none
returns-then-not-is_untried-clause-none c = λ _.
    tried_before c.args.ledger.now c.args.train (ap is_untried (sym c.get.ensures) ∙ sym c.is_untried.ensures ∙ c.if-not-is_untried.true)

pub admit-requires-clause-next : goal.admit-requires-clause-next
admit-requires-clause-next c =
    let untried : is_untried c.get.result.now ≡ true = sym c.is_untried.ensures ∙ c.if-not-is_untried.false in
    next_unbarred c.args.ledger.now c.args.train c.requires.train (ap is_untried (sym c.get.ensures) ∙ untried)
    (c.requires.unbarred c.args.train c.requires.train (ap is_untried (sym c.get.ensures) ∙ untried))

pub returns-clause-none : goal.returns-clause-none
returns-clause-none c = λ none. let facts = c.admit.ensures.none none in tried_now c.args.ledger.now c.admit.new.self c.args.train c.requires.train facts.0 facts.1
