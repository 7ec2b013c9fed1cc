use Rattle.std.proofs.Common.{List, ap, subst, ◌∙◌}
use Rattle.std.specs.List.{list_all}
use Rattle.rail_reroute.specs.Proposals.{is_ready}
use Rattle.rail_reroute.specs.declared.proposals.Proposal.{Proposal}
use Rattle.rail_forms.specs.Reroutes.{AreAnswered}
use Rattle.rail_forms.proofs.reroute.answers_to.Goals as goal

pub answer_each-requires-clause-ready : goal.answer_each-requires-clause-ready
answer_each-requires-clause-ready c = ap (list_all (is_ready c.args.scene.now)) c.as_slice.ensures ∙ c.in_ok-proposals.ensures.ready

pub returns-clause-answered : goal.returns-clause-answered
returns-clause-answered c =
    subst (λ (proposals : List Proposal). AreAnswered c.args.scene.now c.args.positions.now proposals c.in_ok-answers.answers.items) (c.as_slice.ensures ∙ c.in_ok-proposals.ensures.read) c.in_ok-answers.ensures.answered
