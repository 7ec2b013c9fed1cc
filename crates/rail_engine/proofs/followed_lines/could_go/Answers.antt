use Rattle.std.proofs.Common.{◌≡◌, true, sym, ap, ◌∙◌}
use Rattle.rail_rules.specs.Causes.{could_go}
use Rattle.rail_state.specs.TrainStates.{is_untried}
use Rattle.rail_ledger.specs.Inputs.{input_in}
use Rattle.rail_ledger.proofs.CallerLemmas.{next_unbarred}
use Rattle.rail_engine.proofs.FollowedLines.{answered, none_stays, tried_stays}
use Rattle.rail_engine.proofs.Trying.{tried_before, tried_now}
use Rattle.rail_engine.proofs.followed_lines.could_go.Goals as goal

pub returns-then-not-is_untried-clause-exact : goal.returns-then-not-is_untried-clause-exact
returns-then-not-is_untried-clause-exact c = λ front at.
    sym (tried_stays front c.args.ledger.now at (c.requires.deciding front at) c.args.train c.requires.train
    (ap is_untried (sym c.get.ensures) ∙ sym c.is_untried.ensures ∙ c.if-not-is_untried.true))

pub knows_list-requires-clause-next : goal.knows_list-requires-clause-next
knows_list-requires-clause-next c =
    let untried : is_untried c.get.result.now ≡ true = sym c.is_untried.ensures ∙ c.if-not-is_untried.false in
    next_unbarred c.args.ledger.now c.args.train c.requires.train (ap is_untried (sym c.get.ensures) ∙ untried)
    (c.requires.unbarred c.args.train c.requires.train (ap is_untried (sym c.get.ensures) ∙ untried))

pub returns-clause-exact : goal.returns-clause-exact
returns-clause-exact c = λ front at.
    answered c.knows_list.result (could_go (input_in c.args.ledger.now.input) front c.args.train) (λ known. c.knows_list.ensures.known known front at)
    (λ unknown. none_stays front c.args.ledger.now c.knows_list.new.self at (c.requires.deciding front at) c.args.train c.requires.train c.knows_list.ensures.alike (c.knows_list.ensures.none unknown))

pub returns-then-not-is_untried-clause-tried : goal.returns-then-not-is_untried-clause-tried
returns-then-not-is_untried-clause-tried c = λ _.
    tried_before c.args.ledger.now c.args.train (ap is_untried (sym c.get.ensures) ∙ sym c.is_untried.ensures ∙ c.if-not-is_untried.true)

pub returns-clause-tried : goal.returns-clause-tried
returns-clause-tried c = λ unknown. tried_now c.args.ledger.now c.knows_list.new.self c.args.train c.requires.train c.knows_list.ensures.alike (c.knows_list.ensures.none unknown)
