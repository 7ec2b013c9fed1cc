use Rattle.std.proofs.Common.{sym, ◌∙◌}
use Rattle.rail_input.proofs.Policies.{policy_known, policy_unknown}
use Rattle.rail_input.proofs.deck.force_of.Goals as goal

pub returns-in-Some-clause-accepted : goal.returns-in-Some-clause-accepted
returns-in-Some-clause-accepted c = (policy_known c.args.policy c.args.deck.now c.in-Some.index (sym c.index_in_deck.ensures.index ∙ c.in-Some.is)).0

pub returns-in-None-clause-refused : goal.returns-in-None-clause-refused
returns-in-None-clause-refused c = policy_unknown c.args.policy c.args.deck.now (sym c.index_in_deck.ensures.index ∙ c.in-None.is)
